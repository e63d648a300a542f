-- What stands drawn of a client, as it says and takes.
use Rattle.std.proofs.Common.{◌≡◌, ℕ, true, false, List, [], ◌∷◌, ◌++◌, map, drop, take}
use Rattle.std.proofs.Common.{refl, sym}
use Rattle.std.proofs.Common.{ap, ◌∙◌, subst}
use Rattle.std.specs.Prelude.{Option, None, Some, option_to_list}
use Rattle.std.specs.List.{filter_map}
use Rattle.std.proofs.lemmas.List.{map-append}
use Rattle.dp_msg_draw.specs.declared.draw.Draw.{Draw}
use Rattle.dp_msg_meta.specs.declared.message.Meta.{Meta}
use Rattle.dp_msg_meta.specs.declared.message.Meta.TheVariants.{UndoDepth}
use Rattle.dp_messages.specs.declared.message.Msg.{Msg}
use Rattle.dp_messages.specs.declared.message.Msg.TheVariants as msg
use Rattle.dp_messages.specs.declared.message.Entry.{Entry}
use Rattle.dp_messages.specs.Properties.{command_of}
use Rattle.dp_board.specs.declared.act.Act.{Act}
use Rattle.dp_board.specs.declared.act.UserAct.{UserAct}
use Rattle.dp_board.specs.Commands as strokes
use Rattle.dp_fork.specs.declared.own.Own.{Own}
use Rattle.dp_fork.specs.declared.own.Own.TheVariants.{Stranger, Echo, Dropped, Lost}
use Rattle.dp_fork.specs.Fork.{Answers, commands_in, left_by}
use Rattle.dp_replay.specs.Replay.{act_of, act_of_message, act_of_meta, undo_depth, user_act_of}
use Rattle.dp_screen.specs.Screen.{IsScreenOf, ScreenGoesOn, Screened}
use Rattle.dp_client.specs.Client.{fork_after}
use Rattle.dp_client.specs.Drawn.{HasDrawn}

-- ---- messages as acts

meta_command : (m : Meta) → strokes.command_of (act_of_meta {Op = Draw} m) true ≡ []
meta_command (UndoDepth depth) = refl
meta_command m = refl

-- the command of a message is that of its act
command_same : (user : ℕ) (m : Msg)
    → strokes.command_of (act_of_message user m) true ≡ option_to_list (command_of m)
command_same user msg.Point = refl
command_same user (msg.Undo target false) = refl
command_same user (msg.Undo target true) = refl
command_same user (msg.Draw command) = refl
command_same user (msg.Control m) = refl
command_same user (msg.Meta m) = meta_command m
command_same user (msg.Part command) = refl
command_same user (msg.Opaque kind body) = refl

-- the commands of a message and of those after it
one_more : (user : ℕ) (m : Msg) (rest : List Msg) (o : Option Draw) → command_of m ≡ o
    → commands_in (map (act_of_message user) rest) ≡ filter_map command_of rest
    → commands_in (map (act_of_message user) (m ∷ rest)) ≡ filter_map command_of (m ∷ rest)
one_more user m rest None is same =
    let first : strokes.command_of (act_of_message user m) true ≡ [] =
    command_same user m ∙ ap option_to_list is in
    rw is (ap (λ (xs : List Draw). xs ++ commands_in (map (act_of_message user) rest)) first
    ∙ same)
one_more user m rest (Some op) is same =
    let first : strokes.command_of (act_of_message user m) true ≡ op ∷ [] =
    command_same user m ∙ ap option_to_list is in
    rw is (ap (λ (xs : List Draw). xs ++ commands_in (map (act_of_message user) rest)) first
    ∙ ap (λ (xs : List Draw). op ∷ xs) same)

-- the commands of a fork
pub commands_same : (user : ℕ) (fork : List Msg)
    → commands_in (map (act_of_message user) fork) ≡ filter_map command_of fork
commands_same user [] = refl
commands_same user (m ∷ rest) =
    one_more user m rest (command_of m) refl (commands_same user rest)

-- ---- what an answer leaves

drop_mapped : {X Y : Type 0} (f : X → Y) (xs : List X) → drop 1 (map f xs) ≡ map f (drop 1 xs)
drop_mapped f [] = refl
drop_mapped f (x ∷ xs) = refl

pub left_mapped : {Y : Type 0} (own : Own) (f : Msg → Y) (fork : List Msg)
    → left_by own (map f fork) ≡ map f (fork_after own fork)
left_mapped Stranger f fork = refl
left_mapped Echo f fork = drop_mapped f fork
left_mapped Dropped f fork = drop_mapped f fork
left_mapped Lost f fork = refl

-- ---- what an entry is to the fork

take_mapped : {X Y : Type 0} (f : X → Y) (xs : List X) → take 1 (map f xs) ≡ map f (take 1 xs)
take_mapped f [] = refl
take_mapped f (x ∷ xs) = refl

-- an own answer that is an echo is the front's act
pub answers_own : (own : Own) (user : ℕ) (entry : Entry) (fork : List Msg) → entry.user ≡ user
    → (own ≡ Echo → take 1 fork ≡ entry.msg ∷ [])
    → Answers own (act_of entry) (map (act_of_message user) fork)
answers_own Stranger user entry fork is echo = tt
answers_own Echo user entry fork is echo =
    take_mapped (act_of_message user) fork
    ∙ ap (map (act_of_message user)) (echo refl)
    ∙ ap (λ (n : ℕ). act_of_message n entry.msg ∷ []) (sym is)
answers_own Dropped user entry fork is echo = tt
answers_own Lost user entry fork is echo = tt

-- ---- what stands drawn

module _ {B : Type 0} (is_board : B → Type 0) (draw : B → Draw → B) (blank : B) where
  pub drawn_same : (user : ℕ) (taken taken' : List Entry) (fork fork' : List Msg)
      (s s' : Screened B Draw) → HasDrawn is_board draw blank user taken fork s
      → taken' ≡ taken → fork' ≡ fork → s' ≡ s
      → HasDrawn is_board draw blank user taken' fork' s'
  drawn_same user taken taken' fork fork' s s' of t f e = rw (t, f, e) of

  -- a screen that has just begun
  pub drawn_anew : (user : ℕ) (taken : List Entry) (fork : List Msg) (blank' : B)
      (acts : List (UserAct Draw)) (s : Screened B Draw) → blank' ≡ blank
      → acts ≡ map user_act_of taken → IsScreenOf is_board draw blank' undo_depth acts s
      → s.fork.acts ≡ [] → fork ≡ [] → HasDrawn is_board draw blank user taken fork s
  drawn_anew user taken fork blank' acts s is all of none empty = record {
    screen = subst (λ (x : B). IsScreenOf is_board draw x undo_depth (map user_act_of taken) s) is
        (subst (λ (xs : List (UserAct Draw)). IsScreenOf is_board draw blank' undo_depth xs s) all
        of);
    pending = none ∙ sym (ap (map (act_of_message user)) empty);
  }

  -- a message more is said
  pub drawn_said : (user : ℕ) (taken : List Entry) (fork fork' : List Msg) (m : Msg)
      (said : Act Draw) (s s' : Screened B Draw) → HasDrawn is_board draw blank user taken fork s
      → ((blank : B) (depth : ℕ) (acts : List (UserAct Draw))
      → IsScreenOf is_board draw blank depth acts s
      → IsScreenOf is_board draw blank depth acts s')
      → s'.fork.acts ≡ s.fork.acts ++ said ∷ [] → said ≡ act_of_message user m
      → fork' ≡ fork ++ m ∷ [] → HasDrawn is_board draw blank user taken fork' s'
  drawn_said user taken fork fork' m said s s' of goes more is now = record {
    screen = goes blank undo_depth (map user_act_of taken) of.screen;
    pending = more
        ∙ ap (λ (xs : List (Act Draw)). xs ++ said ∷ []) of.pending
        ∙ ap (λ (x : Act Draw). map (act_of_message user) fork ++ x ∷ []) is
        ∙ sym (map-append (act_of_message user) fork (m ∷ []))
        ∙ sym (ap (map (act_of_message user)) now);
  }

  -- an entry more is taken
  pub drawn_took : (user : ℕ) (taken taken' : List Entry) (fork fork' : List Msg) (entry : Entry)
      (a : UserAct Draw) (own : Own) (s s' : Screened B Draw)
      → HasDrawn is_board draw blank user taken fork s
      → ScreenGoesOn is_board draw a own s s' → s'.fork.acts ≡ left_by own s.fork.acts
      → a ≡ user_act_of entry
      → Answers own (act_of entry) (map (act_of_message user) fork)
      → taken' ≡ taken ++ entry ∷ [] → fork' ≡ fork_after own fork
      → HasDrawn is_board draw blank user taken' fork' s'
  drawn_took user taken taken' fork fork' entry a own s s' of goes left is answers now fork_now =
      let answers' : Answers own a.act s.fork.acts =
      subst (λ (acts : List (Act Draw)). Answers own a.act acts) (sym of.pending)
      (subst (λ (x : UserAct Draw). Answers own x.act (map (act_of_message user) fork)) (sym is)
      answers) in
      let acts : map user_act_of taken' ≡ map user_act_of taken ++ a ∷ [] =
      ap (map user_act_of) now ∙ map-append user_act_of taken (entry ∷ [])
      ∙ ap (λ (x : UserAct Draw). map user_act_of taken ++ x ∷ []) (sym is) in
      record {
        screen = subst
            (λ (xs : List (UserAct Draw)). IsScreenOf is_board draw blank undo_depth xs s')
            (sym acts) (goes blank undo_depth (map user_act_of taken) of.screen answers');
        pending = left ∙ ap (left_by own) of.pending
            ∙ left_mapped own (act_of_message user) fork
            ∙ sym (ap (map (act_of_message user)) fork_now);
      }
