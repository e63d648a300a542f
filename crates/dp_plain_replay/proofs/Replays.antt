-- Replays of histories.
use Rattle.std.proofs.Common.{◌≡◌, ℕ, List, [], ◌∷◌, Bool, length, map, refl, ap, ◌∙◌}
use Rattle.std.proofs.lemmas.List.{length-map}
use Rattle.dp_msg_draw.specs.declared.draw.Draw.{Draw}
use Rattle.dp_msg_meta.specs.declared.message.Meta.{Meta}
use Rattle.dp_msg_meta.specs.declared.message.Meta.TheVariants.{UndoDepth}
use Rattle.dp_messages.specs.declared.message.Entry.{Entry}
use Rattle.dp_board.specs.declared.act.UserAct.{UserAct}
use Rattle.dp_board.specs.Flags.{drawn_flags}
use Rattle.dp_board.specs.Commands.{command_of, map_commands}
use Rattle.dp_board.specs.Laws.{CommandsDoNotCount, EachActHasAFlag}
use Rattle.dp_replay.specs.Replay.{act_of_meta, user_act_of}
use Rattle.dp_replay.specs.Kinds.{kind_of_entry}

-- a message on the session is no command
pub command_of_meta : (m : Meta) (flag : Bool) → command_of (act_of_meta {Op = Draw} m) flag ≡ []
command_of_meta (UndoDepth depth) flag = refl
command_of_meta m flag = refl

-- the kinds of entries are their acts, with nothing in place of their commands
kinds_are_acts : (entries : List Entry)
    → map kind_of_entry entries ≡ map_commands (λ (command : Draw). tt) (map user_act_of entries)
unfolding kind_of_entry
kinds_are_acts [] = refl
kinds_are_acts (entry ∷ entries) = ap (λ (acts : List (UserAct (Unit {0}))). kind_of_entry entry
    ∷ acts)
    (kinds_are_acts entries)

-- the flags of the kinds of entries are those of their acts
pub flags_of_acts : CommandsDoNotCount Draw (Unit {0})
    → (depth : ℕ) (entries : List Entry) (kinds : List (UserAct (Unit {0}))) (flags : List Bool) →
    kinds ≡ map kind_of_entry entries → flags ≡ drawn_flags depth kinds
    → flags ≡ drawn_flags depth (map user_act_of entries)
flags_of_acts law depth entries kinds flags k f =
    f ∙ ap (λ (acts : List (UserAct (Unit {0}))). drawn_flags depth acts)
    (k ∙ kinds_are_acts entries)
    ∙ law (λ _. tt) depth (map user_act_of entries)

-- there is a flag for each entry
pub flags_fit : EachActHasAFlag Draw → (depth : ℕ) (entries : List Entry) (flags : List Bool)
    → flags ≡ drawn_flags depth (map user_act_of entries)
    → length flags ≡ length entries
flags_fit law depth entries flags e = ap length e ∙ law depth (map user_act_of entries)
    ∙ length-map entries user_act_of
