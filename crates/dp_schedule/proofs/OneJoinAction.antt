-- A line of a script of `join` asks for one thing.
use Rattle.std.proofs.Common.{◌≡◌, ◌⊎◌, inl, inr, ℕ, List, [], ◌∷◌, get_or, if◌then◌else◌, ◌==◌}
use Rattle.std.proofs.Common.{refl, sym, ap, ◌∙◌, subst, true, false}
use Rattle.std.specs.Prelude.{codes, IfOk, IfSome, IfNone, Option, Some, None, Result, slice_get}
use Rattle.dp_lines.specs.Lines.{words}
use Rattle.dp_lines.specs.Numbers.{IsNumber}
use Rattle.dp_messages.specs.declared.message.Msg.{Msg}
use Rattle.dp_schedule.specs.declared.join_action.JoinAction.{JoinAction}
use Rattle.dp_schedule.specs.declared.join_action.JoinAction.TheVariants.{Say, Take, View}
use Rattle.dp_schedule.specs.declared.join_action.JoinAction.TheVariants.{Confirmed, Snapshot}
use Rattle.dp_schedule.specs.declared.join_action.JoinAction.TheVariants.{Reset, Chat}
use Rattle.dp_schedule.specs.LineGrammar.{HexSpells}
use Rattle.dp_schedule.specs.JoinGrammar.{Asks, WordsAsk}
use Rattle.dp_schedule.proofs.OneAction.{OneNumber, OneMessage, one_spelled}

-- which action a word alone asks for, by its first two bytes
alone_by : ℕ → ℕ → JoinAction
alone_by first second =
    if first == 118 then View else (if first == 114 then Reset false else
    (if first == 107 then Reset true else (if first == 115 then Snapshot else
    (if second == 111 then Confirmed else Chat))))

abbrev alone : List ℕ → JoinAction
alone word = alone_by (get_or word 0 0) (get_or word 1 0)

alone_back : (word : List ℕ) (action : JoinAction) → WordsAsk (word ∷ []) action
    → alone word ≡ action
unfolding alone_by
alone_back word (Say m) (hex, parts, spells) = absurd (cc (parts))
alone_back word (Take count) (digits, parts, number) = absurd (cc (parts))
alone_back word View asks = let is : word ≡ codes "view" = cc in rw is refl
alone_back word Confirmed asks = let is : word ≡ codes "conf" = cc in rw is refl
alone_back word Snapshot asks = let is : word ≡ codes "snap" = cc in rw is refl
alone_back word (Reset false) asks = let is : word ≡ codes "reset" = cc in rw is refl
alone_back word (Reset true) asks = let is : word ≡ codes "keep" = cc in rw is refl
alone_back word Chat asks = let is : word ≡ codes "chat" = cc in rw is refl

-- no action is asked for without a word
no_words : (action : JoinAction) → WordsAsk [] action → ⊥
no_words (Say m) (hex, parts, spells) = cc (parts)
no_words (Take count) (digits, parts, number) = cc (parts)
no_words _ asks = cc (asks)

-- nor by three or more
many_words : (x y z : List ℕ) (more : List (List ℕ)) (action : JoinAction)
    → WordsAsk (x ∷ y ∷ z ∷ more) action → ⊥
many_words x y z more (Say m) (hex, parts, spells) = cc (parts)
many_words x y z more (Take count) (digits, parts, number) = cc (parts)
many_words x y z more _ asks = cc (asks)

-- two words say a message
record Says (first second : List ℕ) (action : JoinAction) : Type 0 where
  m : Msg
  is : action ≡ Say m
  word : first ≡ codes "say"
  spells : HexSpells second m

-- two words take entries
record Takes (first second : List ℕ) (action : JoinAction) : Type 0 where
  count : ℕ
  is : action ≡ Take count
  word : first ≡ codes "take"
  number : IsNumber second count

pair_back : (first second : List ℕ) (action : JoinAction)
    → WordsAsk (first ∷ second ∷ []) action
    → Says first second action ⊎ Takes first second action
pair_back first second (Say m) (hex, parts, spells) =
    let same : hex ≡ second = cc in
    inl (record {
      m = m;
      is = refl;
      word = cc;
      spells = subst (λ (w : List ℕ). HexSpells w m) same spells;
    })
pair_back first second (Take count) (digits, parts, number) =
    let same : digits ≡ second = cc in
    inr (record {
      count = count;
      is = refl;
      word = cc;
      number = subst (λ (w : List ℕ). IsNumber w count) same number;
    })
pair_back first second _ asks = absurd (cc (asks))

say_or_take : (word : List ℕ) → word ≡ codes "say" → word ≡ codes "take" → ⊥
say_or_take word say take = cc (sym say ∙ take)

one_pair : OneNumber → OneMessage → (first second : List ℕ) (action other : JoinAction)
    → Says first second action ⊎ Takes first second action
    → Says first second other ⊎ Takes first second other → action ≡ other
one_pair numbers messages first second action other (inl a) (inl b) =
    a.is ∙ ap Say (one_spelled messages second a.m b.m a.spells b.spells) ∙ sym b.is
one_pair numbers messages first second action other (inl a) (inr b) =
    absurd (say_or_take first a.word b.word)
one_pair numbers messages first second action other (inr a) (inl b) =
    absurd (say_or_take first b.word a.word)
one_pair numbers messages first second action other (inr a) (inr b) =
    a.is ∙ ap Take (numbers second a.count b.count a.number b.number) ∙ sym b.is

pub one_join_asked : OneNumber → OneMessage → (all : List (List ℕ)) (action other : JoinAction)
    → WordsAsk all action → WordsAsk all other → action ≡ other
one_join_asked numbers messages [] action other asks others = absurd (no_words action asks)
one_join_asked numbers messages (word ∷ []) action other asks others =
    sym (alone_back word action asks) ∙ alone_back word other others
one_join_asked numbers messages (first ∷ second ∷ []) action other asks others =
    one_pair numbers messages first second action other (pair_back first second action asks)
    (pair_back first second other others)
one_join_asked numbers messages (x ∷ y ∷ z ∷ more) action other asks others =
    absurd (many_words x y z more action asks)

-- ---- reading

-- a list with one item and no second
pub one_word : (all : List (List ℕ)) (first : List ℕ)
    → slice_get all 0 ≡ Some first → slice_get all 1 ≡ None → all ≡ first ∷ []
one_word [] first a none = absurd (cc (a))
one_word (x ∷ []) first a none = cc
one_word (x ∷ y ∷ more) first a none = absurd (cc (none))

-- the answer to the words is the answer to the line
pub found_line : {E : Type 0} (line : List ℕ) (all : List (List ℕ)) → words line ≡ all
    → (r : Result (Option JoinAction) E)
    → IfOk r (λ found. IfSome found (WordsAsk all)) → IfOk r (λ found. IfSome found (Asks line))
found_line line all same r asks =
    subst (λ ws. IfOk r (λ found. IfSome found (WordsAsk ws))) (sym same) asks

pub none_line : {E : Type 0} (line : List ℕ) (all : List (List ℕ)) → words line ≡ all
    → (r : Result (Option JoinAction) E)
    → IfOk r (λ found. IfNone found ((action : JoinAction) → ¬ WordsAsk all action))
    → IfOk r (λ found. IfNone found ((action : JoinAction) → ¬ Asks line action))
none_line line all same r none =
    subst (λ ws. IfOk r (λ found. IfNone found ((action : JoinAction) → ¬ WordsAsk ws action)))
    (sym same) none

pub found_alone : (line : List ℕ) (all : List (List ℕ)) → words line ≡ all
    → (found : Option JoinAction) → IfSome found (WordsAsk all) → IfSome found (Asks line)
found_alone line all same found asks =
    subst (λ ws. IfSome found (WordsAsk ws)) (sym same) asks

pub none_alone : (line : List ℕ) (all : List (List ℕ)) → words line ≡ all
    → (found : Option JoinAction)
    → IfNone found ((action : JoinAction) → ¬ WordsAsk all action)
    → IfNone found ((action : JoinAction) → ¬ Asks line action)
none_alone line all same found none =
    subst (λ ws. IfNone found ((action : JoinAction) → ¬ WordsAsk ws action)) (sym same) none

-- two words of which the first takes no entries and the second spells no message
pub pair_none : (first second : List ℕ) → (first ≡ codes "take" → ⊥)
    → ((m : Msg) → ¬ HexSpells second m)
    → (action : JoinAction) → ¬ WordsAsk (first ∷ second ∷ []) action
pair_none first second no_take none action asks =
    elim (pair_back first second action asks) [
      | inl says ↦ none says.m says.spells
      | inr takes ↦ no_take takes.word
    ]
