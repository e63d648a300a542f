-- What a reset keeps of a history shows what the history shows.
use Rattle.std.proofs.Common.{◌≡◌, ℕ, ◌+◌, List, [], ◌∷◌, ◌++◌, map, fold, take, drop, Some}
use Rattle.std.proofs.Common.{unwrap_or, refl, ap, sym, ◌∙◌, append_assoc}
use Rattle.std.specs.Option.{option_map_or}
use Rattle.std.proofs.lemmas.List.{append-nil, map-append, take-append-drop}
use Rattle.dp_msg_draw.specs.declared.draw.Draw.{Draw}
use Rattle.dp_messages.specs.declared.message.Entry.{Entry}
use Rattle.dp_board.specs.declared.act.UserAct.{UserAct}
use Rattle.dp_board.specs.Commands.{drawn_commands}
use Rattle.dp_board.specs.Laws.{depth_in, depth_after, OthersDoNotCount}
use Rattle.dp_plain.specs.Board.{Board, empty_board}
use Rattle.dp_plain.specs.Commands.{draw, draw_all}
use Rattle.dp_replay.specs.Replay.{replay, replay_from, user_act_of, undo_depth, depth_in_force}
use Rattle.dp_acl.specs.Opening.{goes_over, kept_entries, opening}
use Rattle.dp_epochs.specs.declared.event.Event.TheVariants.{Say}
use Rattle.dp_epochs.specs.declared.event.Reply.TheVariants.{Ignored}
use Rattle.dp_epochs.specs.State.{State, epoch_of, present_users, sent_commands, kept_by}
use Rattle.dp_epochs.specs.State.{stays, says_by, acted_by, after_event}
use Rattle.dp_keep_laws.specs.Keeping.{MayBeCut, EndsKeeping, reset_end}
use Rattle.dp_keep_laws.proofs.SuffixLemmas.{suffixes_show_alone}
use Rattle.dp_keep_laws.proofs.LeftOut.{drawn-left_out, left_out, depth-stays}

-- the history, cut at a place
cut-acts : (place : ℕ) (history more : List Entry)
    → map user_act_of (take place history) ++ map user_act_of (drop place history ++ more)
    ≡ map user_act_of (history ++ more)
cut-acts place history more =
    sym (map-append user_act_of (take place history) (drop place history ++ more))
    ∙ ap (map user_act_of) (sym (append_assoc (take place history) (drop place history) more)
    ∙ ap (λ xs. xs ++ more) (take-append-drop place history))

-- the depth in force is that at the place
cut-depth : (place : ℕ) (history more : List Entry) → MayBeCut place history more
    → depth_in_force history ≡ depth_in_force (take place history)
cut-depth place history more may =
    let first = map user_act_of (take place history) in
    let rest = map user_act_of (drop place history) in
    ap (λ xs. depth_in_force xs) (sym (take-append-drop place history))
    ∙ ap (depth_after undo_depth) (map-append user_act_of (take place history)
    (drop place history))
    ∙ depth-append undo_depth first rest
    ∙ depth-stays (depth_after undo_depth first) rest may.depths
  where
    depth-append : {Op : Type 0} → (depth : ℕ) (xs ys : List (UserAct Op))
        → depth_after depth (xs ++ ys) ≡ depth_after (depth_after depth xs) ys
    depth-append depth [] ys = refl
    depth-append depth (x ∷ xs) ys = depth-append (unwrap_or (depth_in x.act) depth) xs ys

-- what is kept shows the same as what was there
kept-drawn : OthersDoNotCount Draw → (depth place : ℕ) (history more : List Entry)
    → MayBeCut place history more
    → drawn_commands depth (map user_act_of (kept_entries (Some place) history ++ more))
    ≡ drawn_commands depth (map user_act_of (drop place history ++ more))
kept-drawn law depth place history more may =
    let rest = drop place history in
    ap (drawn_commands depth) (map-append user_act_of (kept_entries (Some place) history) more)
    ∙ drawn-left_out law (λ e. goes_over e.msg) depth [] rest (map user_act_of more)
    (left_out rest may.depths)
    ∙ ap (drawn_commands depth) (sym (map-append user_act_of rest more))

pub kept-shows : OthersDoNotCount Draw → (history more : List Entry) (place : ℕ)
    → MayBeCut place history more
    → replay_from draw (replay (take place history)) (depth_in_force history)
    (kept_entries (Some place) history ++ more)
    ≡ replay (history ++ more)
kept-shows law history more place may =
    let first = replay (take place history) in
    let kept = kept_entries (Some place) history ++ more in
    let depth = depth_in_force (take place history) in
    ap (λ d. replay_from draw first d kept) (cut-depth place history more may)
    ∙ ap (fold draw first) (kept-drawn law depth place history more may)
    ∙ sym (suffixes_show_alone Board Draw draw empty_board undo_depth
    (map user_act_of (take place history)) (map user_act_of (drop place history ++ more))
    may.moves)
    ∙ ap (λ acts. fold draw empty_board (drawn_commands undo_depth acts))
    (cut-acts place history more)

-- an opening that keeps it goes on so
abbrev pub OpeningsGoOn : Type 0
OpeningsGoOn =
    (epoch : ℕ) (history : List Entry) (present : List ℕ) (commands : List Draw)
    (kept more : List Entry)
    → replay (opening epoch history present commands kept ++ more)
    ≡ replay_from draw (draw_all empty_board commands) (depth_in_force history) (kept ++ more)

pub opening-same : OthersDoNotCount Draw → OpeningsGoOn → (epoch : ℕ) (history more : List Entry)
    (present : List ℕ) (commands : List Draw) (place : ℕ) → MayBeCut place history more
    → draw_all empty_board commands ≡ replay (take place history)
    → replay (opening epoch history present commands (kept_entries (Some place) history) ++ more)
    ≡ replay (history ++ more)
opening-same law go_on epoch history more present commands place may draws =
    go_on epoch history present commands (kept_entries (Some place) history) more
    ∙ ap (λ board. replay_from draw board (depth_in_force history)
    (kept_entries (Some place) history ++ more)) draws
    ∙ kept-shows law history more place may

-- the live history after the end of the reset
live-opened : (s : State) (conn place : ℕ) → (ends : EndsKeeping s conn place)
    → (after_event s (Say conn reset_end)).live
    ≡ opening (epoch_of s + 1) s.live (present_users s) ends.stream.commands
    (kept_entries (Some place) s.live)
live-opened s conn place ends =
    ap (λ o. (option_map_or (says_by s conn reset_end) o (stays s Ignored)).state.live) ends.is_open
    ∙ ap (λ d. (acted_by s conn ends.connection reset_end d).state.live) ends.opens
    ∙ ap (λ st. opening (epoch_of s + 1) s.live (present_users s) (sent_commands st)
    (kept_by st s.live)) ends.sent
    ∙ ap (λ at. opening (epoch_of s + 1) s.live (present_users s) ends.stream.commands
    (kept_entries at s.live)) ends.keeps

-- the openings show the same
abbrev pub OpeningsShowTheSame : Type 0
OpeningsShowTheSame =
    (epoch : ℕ) (history more : List Entry) (present : List ℕ) (commands : List Draw) (place : ℕ)
    → MayBeCut place history more → draw_all empty_board commands ≡ replay (take place history)
    → replay (opening epoch history present commands (kept_entries (Some place) history) ++ more)
    ≡ replay (history ++ more)

pub keeping-more : OpeningsShowTheSame → (s : State) (conn place : ℕ) (more : List Entry)
    → EndsKeeping s conn place → MayBeCut place s.live more
    → replay ((after_event s (Say conn reset_end)).live ++ more) ≡ replay (s.live ++ more)
keeping-more law s conn place more ends may =
    ap (λ live. replay (live ++ more)) (live-opened s conn place ends)
    ∙ law (epoch_of s + 1) s.live more (present_users s) ends.stream.commands place may ends.draws

pub keeping-same : OpeningsShowTheSame → (s : State) (conn place : ℕ)
    → EndsKeeping s conn place → MayBeCut place s.live []
    → replay (after_event s (Say conn reset_end)).live ≡ replay s.live
keeping-same law s conn place ends may =
    ap replay (sym (append-nil (after_event s (Say conn reset_end)).live))
    ∙ keeping-more law s conn place [] ends may
    ∙ ap replay (append-nil s.live)
