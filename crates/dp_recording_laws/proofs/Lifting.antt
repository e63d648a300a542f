-- Entries of the first profile, and what they are as lifted.
use Rattle.std.proofs.Common.{◌≡◌, ◌≢◌, ◌⊎◌, ℕ, ◌+◌, ◌-◌, ◌≤◌, Bool, not, cond, List, [], ◌∷◌, ◌++◌}
use Rattle.std.proofs.Common.{length, map, drop, reverse, inl, inr, refl, sym, ap, ap₂, ◌∙◌, subst}
use Rattle.std.specs.Prelude.{◌↔◌}
use Rattle.std.specs.List.{after_last, prefix_len, suffix_len}
use Rattle.std.proofs.lemmas.List.{drop-map, length-map, map-append, reverse-append}
use Rattle.dp_frame.specs.Frames.{FrameParts}
use Rattle.dp_msg_draw.specs.declared.draw.Draw.{Draw}
use Rattle.dp_messages.specs.declared.message.Entry.{Entry}
use Rattle.dp_messages.specs.declared.message.Msg.{Msg}
use Rattle.dp_messages.specs.declared.message.Msg.TheVariants.{Opaque}
use Rattle.dp_messages.specs.Messages.{Lifts, Spells}
use Rattle.dp_messages.specs.Properties.{is_reset_mark}
use Rattle.dp_board.specs.declared.act.Act.{Act}
use Rattle.dp_board.specs.declared.act.UserAct.{UserAct}
use Rattle.dp_board.specs.Replay as strokes
use Rattle.dp_plain.specs.Board.{empty_board}
use Rattle.dp_plain.specs.Commands.{draw}
use Rattle.dp_replay.specs.Replay.{act_of_message, is_mark, shown, undo_depth, user_act_of}
use Rattle.dp_entries.specs.Anywhere.{StandsLifted}
use Rattle.dp_entries.specs.Input.{StandFor, Tells}
use Rattle.dp_recording_laws.specs.FirstProfile.{StoodFirst}

-- ---- what is shown

map-reverse : {X Y : Type 0} (f : X → Y) (xs : List X) → map f (reverse xs) ≡ reverse (map f xs)
map-reverse f [] = refl
map-reverse f (x ∷ xs) =
    ap (map f) (reverse-append (x ∷ []) xs) ∙ map-append f (reverse xs) (x ∷ [])
    ∙ ap (λ ys. ys ++ f x ∷ []) (map-reverse f xs)
    ∙ sym (reverse-append (f x ∷ []) (map f xs))

-- how many of the first items don't pass, by what the test says of each
prefix-tests : {X : Type 0} (p : X → Bool) (xs : List X)
    → prefix_len (λ x. not (p x)) xs ≡ prefix_len not (map p xs)
prefix-tests p [] = refl
prefix-tests p (x ∷ xs) = ap (λ n. cond (not (p x)) (1 + n) 0) (prefix-tests p xs)

suffix-tests : {X : Type 0} (p : X → Bool) (xs ys : List X) → map p xs ≡ map p ys
    → suffix_len (λ x. not (p x)) xs ≡ suffix_len (λ x. not (p x)) ys
suffix-tests p xs ys same =
    prefix-tests p (reverse xs)
    ∙ ap (prefix_len not) (map-reverse p xs ∙ ap reverse same ∙ sym (map-reverse p ys))
    ∙ sym (prefix-tests p (reverse ys))

-- entries of the same acts, which are marks at the same places, show the same
same-shown : (xs ys : List Entry) → map user_act_of xs ≡ map user_act_of ys
    → map is_mark xs ≡ map is_mark ys → shown xs ≡ shown ys
same-shown xs ys acts marks =
    let long : length xs ≡ length ys =
    sym (length-map xs user_act_of) ∙ ap length acts ∙ length-map ys user_act_of in
    let place : length xs - suffix_len (λ e. not (is_mark e)) xs
    ≡ length ys - suffix_len (λ e. not (is_mark e)) ys =
    ap₂ (λ m n. m - n) long (suffix-tests is_mark xs ys marks) in
    let after : map user_act_of (after_last is_mark xs) ≡ map user_act_of (after_last is_mark ys) =
    sym (drop-map user_act_of (length xs - suffix_len (λ e. not (is_mark e)) xs) xs)
    ∙ ap₂ (λ (n : ℕ) (acts : List (UserAct Draw)). drop n acts) place acts
    ∙ drop-map user_act_of (length ys - suffix_len (λ e. not (is_mark e)) ys) ys in
    ap (strokes.replay draw empty_board undo_depth) after

-- ---- a frame

-- how frames of the first profile are read, and that a payload spells at most one message
pub record Laws : Type 0 where
  pub depth : (payload : List ℕ) (m : Msg)
      → Lifts 70 payload m ↔ (m ≡ Opaque 71 payload) × (length payload ≤ 65535)
  pub other : (kind : ℕ) (payload : List ℕ) (m : Msg)
      → kind ≢ 70 → Lifts kind payload m ↔ Spells kind payload m
  pub one : (kind : ℕ) (payload : List ℕ) (m n : Msg)
      → Spells kind payload m → Spells kind payload n → m ≡ n

pub lifted : Laws → (before : ℕ) (frame : FrameParts) (e : Entry) → StoodFirst before frame e
    → (f : Entry) × StandsLifted before frame f
lifted laws before frame e h = by h.spelled
  where
    by : ((frame.kind ≡ 70) × (e.msg ≡ Opaque 70 frame.body) × (length frame.body ≤ 65535))
        ⊎ ((frame.kind ≢ 70) × (frame.kind ≢ 8) × Spells frame.kind frame.body e.msg)
        → (f : Entry) × StandsLifted before frame f
    by (inl x) =
        let now : Msg = Opaque 71 frame.body in (
          record { user = frame.user; msg = now },
          record {
            user = refl;
            lifts = subst (λ k. Lifts k frame.body now) (sym x.0)
                ((laws.depth frame.body now).1 (refl, x.2));
          },
        )
    by (inr x) = (
      record { user = frame.user; msg = e.msg },
      record { user = refl; lifts = (laws.other frame.kind frame.body e.msg x.0).1 x.2 },
    )

pub same-act : Laws → (before : ℕ) (frame : FrameParts) (e f : Entry) → StoodFirst before frame e
    → StandsLifted before frame f → (user_act_of f ≡ user_act_of e) × (is_mark f ≡ is_mark e)
same-act laws before frame e f h k = by h.spelled
  where
    users : f.user ≡ e.user
    users = k.user ∙ sym h.user

    joined : act_of_message f.user f.msg ≡ act_of_message e.user e.msg
        → user_act_of f ≡ user_act_of e
    joined acts = ap₂ (λ (u : ℕ) (a : Act Draw). record { user = u; act = a }) users acts

    by : ((frame.kind ≡ 70) × (e.msg ≡ Opaque 70 frame.body) × (length frame.body ≤ 65535))
        ⊎ ((frame.kind ≢ 70) × (frame.kind ≢ 8) × Spells frame.kind frame.body e.msg)
        → (user_act_of f ≡ user_act_of e) × (is_mark f ≡ is_mark e)
    by (inl x) =
        let now : f.msg ≡ Opaque 71 frame.body =
        ((laws.depth frame.body f.msg).0 (subst (λ n. Lifts n frame.body f.msg) x.0 k.lifts)).0 in (
          joined (ap (act_of_message f.user) now ∙ sym (ap (act_of_message e.user) x.1)),
          ap is_reset_mark now ∙ sym (ap is_reset_mark x.1),
        )
    by (inr x) =
        let same : f.msg ≡ e.msg = laws.one frame.kind frame.body f.msg e.msg
        ((laws.other frame.kind frame.body f.msg x.0).0 k.lifts) x.2 in
        (joined (ap₂ act_of_message users same), ap is_reset_mark same)

-- ---- a list of frames

-- these entries stand in place of others: they do the same, and are marks at the same places
record Replaces (others entries : List Entry) : Type 0 where
  acts : map user_act_of others ≡ map user_act_of entries
  marks : map is_mark others ≡ map is_mark entries

stand-lifted : Laws → (before : ℕ) (frames : List FrameParts) (entries : List Entry)
    → StandFor StoodFirst before frames entries
    → (others : List Entry) × StandFor StandsLifted before frames others × Replaces others entries
stand-lifted laws before [] [] h = ([], tt, record { acts = refl; marks = refl })
stand-lifted laws before [] (e ∷ entries) h = absurd h
stand-lifted laws before (frame ∷ frames) [] h = absurd h
stand-lifted laws before (frame ∷ frames) (e ∷ entries) h =
    let one = lifted laws before frame e h.0 in
    let same = same-act laws before frame e one.0 h.0 one.1 in
    let rest = stand-lifted laws (before + 1) frames entries h.1 in (
      one.0 ∷ rest.0,
      (one.1, rest.1),
      record {
        acts = ap₂ (λ (a : UserAct Draw) (more : List (UserAct Draw)). a ∷ more) same.0 rest.2.acts;
        marks = ap₂ (λ (b : Bool) (bs : List Bool). b ∷ bs) same.1 rest.2.marks;
      },
    )

-- bytes that told entries there tell others that show the same
pub tells-lifted : Laws → (bytes : List ℕ) (entries : List Entry) (rest : List ℕ)
    → Tells StoodFirst bytes entries rest
    → (others : List Entry) × Tells StandsLifted bytes others rest
    × (shown others ≡ shown entries)
tells-lifted laws bytes entries rest h =
    let stands = stand-lifted laws 0 h.frames entries h.stand in (
      stands.0,
      record { frames = h.frames; stand = stands.1; splits = h.splits },
      same-shown stands.0 entries stands.2.acts stands.2.marks,
    )
