-- Acts that stand alone are drawn as they are by themselves.
use Rattle.std.proofs.Common.{◌≡◌, ℕ, ◌≤◌, ◌<◌, true, List, [], ◌∷◌, ◌++◌, length, map}
use Rattle.std.proofs.Common.{Option, None, Some, option_map, inl, inr, fold, refl, sym, ap, subst, ◌∙◌, arith}
use Rattle.std.proofs.Common.{append_assoc, length-append}
use Rattle.std.proofs.lemmas.Bool.{cases_lt}
use Rattle.std.proofs.lemmas.List.{append-nil}
use Rattle.std.proofs.lemmas.List.Sums.{fold-append}
use Rattle.dp_board.specs.declared.act.Act.{Act}
use Rattle.dp_board.specs.declared.act.Act.TheVariants.{Draw}
use Rattle.dp_board.specs.declared.act.UserAct.{UserAct}
use Rattle.dp_board.specs.Strokes.{strokes, after_act, moved, concerned, last_of}
use Rattle.dp_board.specs.Flags.{is_group_drawn, flag_of}
use Rattle.dp_board.specs.Commands.{command_of, drawn_commands}
use Rattle.dp_board.specs.Laws.{depth_after}
use Rattle.dp_board.proofs.WindowLemmas.{position-is, depth_is_in_force}
use Rattle.dp_board.proofs.TimesLemmas.{times, times-append, is_among-some}
use Rattle.dp_board.proofs.StepLemmas.{IsSound, IsSound-strokes}
use Rattle.dp_board.proofs.TableLemmas.{strokes-push}
use Rattle.dp_board.proofs.RenamingLemmas.{is_among-renamed, last_of-renamed}
use Rattle.dp_board.proofs.RenamedStrokes.{drawn_from}
use Rattle.dp_keep_laws.specs.Suffixes.{StandAlone, SuffixesStandAlone, SuffixesShowAlone}
use Rattle.dp_keep_laws.proofs.LaterLemmas.{up, up-injective, IsOld, IsYoung, Later}
use Rattle.dp_keep_laws.proofs.LaterLemmas.{among-rest, among-first, times-up, last-among}
use Rattle.dp_keep_laws.proofs.LaterLemmas.{last_of-rest, later-after_act}

-- the done groups of a user after a history
abbrev done_after : {Op : Type 0} → ℕ → ℕ → List (UserAct Op) → List ℕ
done_after depth user acts = (strokes depth user acts).groups.done

-- they were opened before its end
done-old : {Op : Type 0} → (depth user : ℕ) (acts : List (UserAct Op))
    → IsOld (length acts) (done_after depth user acts)
done-old depth user acts g above =
    let sound = IsSound-strokes depth user acts in
    omega (arith, sound.below g (omega (arith, position-is depth user acts)))

-- for each user the strokes after more acts are those of these acts by themselves, with the older
-- groups
abbrev AreLater : {Op : Type 0} → ℕ → List (UserAct Op) → List (UserAct Op) → Type 0
AreLater depth before acts =
    (user : ℕ) → Later (length before) (done_after depth user before)
    (strokes depth user (before ++ acts)) (strokes (depth_after depth before) user acts)

later-nil : {Op : Type 0} → (depth : ℕ) (before : List (UserAct Op)) → AreLater depth before []
later-nil {Op} depth before user =
    let s = strokes depth user before in
    let sound : IsSound s = IsSound-strokes depth user before in
    let at : s.position ≡ length before = position-is depth user before in
    subst (λ acts. Later (length before) s.groups.done (strokes depth user acts)
    (strokes {Op = Op} (depth_after depth before) user [])) (sym (append-nil before))
    (record {
      position = omega (arith, at);
      window = record {
        depth = depth_is_in_force Op depth user before;
        olds = s.window.points;
        old = λ g above. sound.seen g (omega (arith, at));
        points = sym (append-nil s.window.points);
      };
      groups = record {
        done = sym (append-nil s.groups.done);
        olds = s.groups.undone;
        old = λ g above. omega (arith, sound.below g (omega (arith, at)));
        undone = refl;
      };
    })

later-more : {Op : Type 0} → (depth : ℕ) (before after done rest : List (UserAct Op))
    (a : UserAct Op) → StandAlone depth before after → after ≡ done ++ a ∷ rest
    → AreLater depth before done
    → AreLater depth before (done ++ a ∷ [])
later-more depth before after done rest a alone is are user =
    let d = depth_after depth before in
    let n : ℕ = length before in
    let first = done_after depth user before in
    let s = strokes depth user (before ++ done) in
    let t = strokes d user done in
    let whole : after_act user s a ≡ strokes depth user (before ++ (done ++ a ∷ [])) =
    sym (strokes-push depth user (before ++ done) a)
    ∙ ap (strokes depth user) (append_assoc before done (a ∷ [])) in
    let young : concerned a ≡ user → IsYoung n (moved s a.act) = λ same group moves.
    alone done rest a group is
    (subst (λ u. moved (strokes depth u (before ++ done)) a.act ≡ Some group) (sym same) moves) in
    subst (λ u. Later n first u (strokes d user (done ++ a ∷ []))) whole
    (subst (Later n first (after_act user s a)) (sym (strokes-push d user done a))
    (later-after_act user n first s t a (done-old depth user before) young (are user)))

-- the acts, split one later
split-next : {X : Type 0} → (xs done rest : List X) (x : X) → xs ≡ done ++ x ∷ rest
    → xs ≡ (done ++ x ∷ []) ++ rest
split-next xs done rest x is = is ∙ sym (append_assoc done (x ∷ []) rest)

later-all : {Op : Type 0} → (depth : ℕ) (before after done rest : List (UserAct Op))
    → StandAlone depth before after → after ≡ done ++ rest
    → AreLater depth before done → AreLater depth before after
later-all depth before after done [] alone is are =
    subst (AreLater depth before) (sym (is ∙ append-nil done)) are
later-all depth before after done (a ∷ rest) alone is are =
    later-all depth before after (done ++ a ∷ []) rest alone (split-next after done rest a is)
    (later-more depth before after done rest a alone is are)

-- ---- what is drawn

drawn-group : (n : ℕ) (first end done : List ℕ) → IsOld n first
    → is_group_drawn (first ++ map (up n) end) (last_of (first ++ map (up n) done))
    ≡ is_group_drawn end (last_of done)
drawn-group n first end [] old = old_drawn (last_of (first ++ [])) (last-among (first ++ []))
  where
    old_drawn : (o : Option ℕ) → ((g : ℕ) → o ≡ Some g → 1 ≤ times g (first ++ []))
        → is_group_drawn (first ++ map (up n) end) o ≡ true
    old_drawn None among = refl
    old_drawn (Some g) among =
        is_among-some (first ++ map (up n) end) g
        (omega (
          arith,
          among g refl,
          times-append g first [],
          times-append g first (map (up n) end),
        ))
drawn-group n first end (x ∷ xs) old =
    ap (is_group_drawn (first ++ map (up n) end)) (last_of-rest first (up n x) (map (up n) xs)
    ∙ last_of-renamed (up n) (x ∷ xs))
    ∙ young_drawn (last_of (x ∷ xs))
  where
    young_drawn : (o : Option ℕ)
        → is_group_drawn (first ++ map (up n) end) (option_map (up n) o) ≡ is_group_drawn end o
    young_drawn None = refl
    young_drawn (Some g) =
        among-rest first (map (up n) end) (up n g) (old (up n g) (omega arith))
        ∙ is_among-renamed (up n) (up-injective n) end g

drawn-flag : {Op : Type 0} → (depth : ℕ) (before after done : List (UserAct Op))
    → AreLater depth before after → AreLater depth before done → (user : ℕ) (act : Act Op)
    → flag_of depth (before ++ after) (before ++ done) user act
    ≡ flag_of (depth_after depth before) after done user act
drawn-flag depth before after done whole part user (Draw op) =
    let d = depth_after depth before in
    let first = done_after depth user before in
    let n : ℕ = length before in
    ap (λ xs. is_group_drawn xs (last_of (done_after depth user (before ++ done))))
    (whole user).groups.done
    ∙ ap (λ xs. is_group_drawn (first ++ map (up n) (done_after d user after)) (last_of xs))
    (part user).groups.done
    ∙ drawn-group n first (done_after d user after) (done_after d user done)
    (done-old depth user before)
drawn-flag depth before after done whole part user _ = refl

-- the acts are drawn as they are by themselves
drawn-later : {Op : Type 0} → (depth : ℕ) (before after done rest : List (UserAct Op))
    → StandAlone depth before after → AreLater depth before after → after ≡ done ++ rest
    → AreLater depth before done
    → drawn_from depth (before ++ after) (before ++ done) rest
    ≡ drawn_from (depth_after depth before) after done rest
drawn-later depth before after done [] alone whole is part = refl
drawn-later depth before after done (a ∷ rest) alone whole is part =
    let d = depth_after depth before in
    ap (λ flag. command_of a.act flag
    ++ drawn_from depth (before ++ after) ((before ++ done) ++ a ∷ []) rest)
    (drawn-flag depth before after done whole part a.user a.act)
    ∙ ap (λ b. command_of a.act (flag_of d after done a.user a.act)
    ++ drawn_from depth (before ++ after) b rest) (append_assoc before done (a ∷ []))
    ∙ ap (λ ops. command_of a.act (flag_of d after done a.user a.act) ++ ops)
    (drawn-later depth before after (done ++ a ∷ []) rest alone whole
    (split-next after done rest a is)
    (later-more depth before after done rest a alone is part))

-- ---- what was drawn before

-- a group that was joined before stays done or undone
first-group : (n : ℕ) (first end : List ℕ) (o : Option ℕ) → ((g : ℕ) → o ≡ Some g → g < n)
    → is_group_drawn (first ++ map (up n) end) o ≡ is_group_drawn first o
first-group n first end None less = refl
first-group n first end (Some g) less =
    among-first first (map (up n) end) g (times-up n g end (less g refl))

first-flag : {Op : Type 0} → (depth : ℕ) (before after done : List (UserAct Op))
    → AreLater depth before after → length done ≤ length before → (user : ℕ) (act : Act Op)
    → flag_of depth (before ++ after) done user act ≡ flag_of depth before done user act
first-flag depth before after done whole within user (Draw op) =
    let joined = last_of (done_after depth user done) in
    let n : ℕ = length before in
    ap (λ xs. is_group_drawn xs joined) (whole user).groups.done
    ∙ first-group n (done_after depth user before)
    (done_after (depth_after depth before) user after) joined
    (λ g is. let among = last-among (done_after depth user done) g is in
    let old = done-old depth user done in earlier g among old)
  where
    earlier : (g : ℕ) → 1 ≤ times g (done_after depth user done)
        → IsOld (length done) (done_after depth user done) → g < length before
    earlier g among old = elim (cases_lt g (length done)) [
      | inl less ↦ omega arith
      | inr more ↦ absurd (omega (arith, old g more))
    ]
first-flag depth before after done whole within user _ = refl

drawn-first : {Op : Type 0} → (depth : ℕ) (before after done rest : List (UserAct Op))
    → AreLater depth before after → before ≡ done ++ rest
    → drawn_from depth (before ++ after) done rest ≡ drawn_from depth before done rest
drawn-first depth before after done [] whole is = refl
drawn-first depth before after done (a ∷ rest) whole is =
    let within : length done ≤ length before =
    omega (arith, ap length is, length-append done (a ∷ rest)) in
    ap (λ flag. command_of a.act flag ++ drawn_from depth (before ++ after) (done ++ a ∷ []) rest)
    (first-flag depth before after done whole within a.user a.act)
    ∙ ap (λ ops. command_of a.act (flag_of depth before done a.user a.act) ++ ops)
    (drawn-first depth before after (done ++ a ∷ []) rest whole (split-next before done rest a is))

-- ---- both

drawn_from-append : {Op : Type 0} → (depth : ℕ) (all before xs ys : List (UserAct Op))
    → drawn_from depth all before (xs ++ ys)
    ≡ drawn_from depth all before xs ++ drawn_from depth all (before ++ xs) ys
drawn_from-append depth all before [] ys =
    ap (λ b. drawn_from depth all b ys) (sym (append-nil before))
drawn_from-append depth all before (a ∷ xs) ys =
    let command = command_of a.act (flag_of depth all before a.user a.act) in
    ap (λ ops. command ++ ops) (drawn_from-append depth all (before ++ a ∷ []) xs ys)
    ∙ sym (append_assoc command (drawn_from depth all (before ++ a ∷ []) xs)
    (drawn_from depth all ((before ++ a ∷ []) ++ xs) ys))
    ∙ ap (λ b. (command ++ drawn_from depth all (before ++ a ∷ []) xs)
    ++ drawn_from depth all b ys) (append_assoc before (a ∷ []) xs)

pub suffixes_stand_alone : (Op : Type 0) → SuffixesStandAlone Op
suffixes_stand_alone Op depth before after alone =
    let none = later-nil depth before in
    let whole = later-all depth before after [] after alone refl none in
    let d = depth_after depth before in
    drawn_from-append depth (before ++ after) [] before after
    ∙ ap (λ ops. ops ++ drawn_from depth (before ++ after) before after)
    (drawn-first depth before after [] before whole refl)
    ∙ ap (λ b. drawn_commands depth before ++ drawn_from depth (before ++ after) b after)
    (sym (append-nil before))
    ∙ ap (λ ops. drawn_commands depth before ++ ops)
    (drawn-later depth before after [] after alone whole refl none)

pub suffixes_show_alone : (B Op : Type 0) → SuffixesShowAlone B Op
suffixes_show_alone B Op draw blank depth before after alone =
    ap (fold draw blank) (suffixes_stand_alone Op depth before after alone)
    ∙ fold-append draw blank (drawn_commands depth before)
    (drawn_commands (depth_after depth before) after)
