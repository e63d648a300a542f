use Rattle.std.proofs.Common.{◌++◌, codes}
use Rattle.std.specs.List.{flat_map}
use Rattle.std.proofs.KnownBytes.{Appends-trans}
use Rattle.dp_io.proofs.Prefixes.{grows_after, grows_within}
use Rattle.dp_showing.specs.Showing.{hex_frame, recording_head, recording_text}
use Rattle.dp_showing.proofs.Pieces.{appends_is, prefix_is}
use Rattle.dp_printing.proofs.Pieces.{recording_is}
use Rattle.dp_printing.proofs.recording.write_recording.Goals as goal

pub returns-in_err-write_head-clause-prefix : goal.returns-in_err-write_head-clause-prefix
returns-in_err-write_head-clause-prefix g c =
    let frames = flat_map hex_frame c.args.entries.now in
    prefix_is _ _ (recording_head ++ (frames ++ codes "\n")) (recording_text c.args.entries.now)
    (recording_is c.args.entries.now)
    (grows_within _ _ recording_head (frames ++ codes "\n") c.in_err-write_head.ensures.prefix)

pub returns-in_err-write_frames-clause-prefix : goal.returns-in_err-write_frames-clause-prefix
returns-in_err-write_frames-clause-prefix g c =
    let frames = flat_map hex_frame c.args.entries.now in
    prefix_is _ _ (recording_head ++ (frames ++ codes "\n")) (recording_text c.args.entries.now)
    (recording_is c.args.entries.now)
    (grows_after _ _ _ recording_head (frames ++ codes "\n") c.in_ok-write_head.ensures.written
    (grows_within _ _ frames (codes "\n") c.in_err-write_frames.ensures.prefix))

pub returns-in_err-put_all-clause-prefix : goal.returns-in_err-put_all-clause-prefix
returns-in_err-put_all-clause-prefix g c =
    let frames = flat_map hex_frame c.args.entries.now in
    prefix_is _ _ (recording_head ++ (frames ++ codes "\n")) (recording_text c.args.entries.now)
    (recording_is c.args.entries.now)
    (grows_after _ _ _ recording_head (frames ++ codes "\n") c.in_ok-write_head.ensures.written
    (grows_after _ _ _ frames (codes "\n") c.in_ok-write_frames.ensures.written
    c.in_err-put_all.ensures.prefix))

pub returns-clause-written : goal.returns-clause-written
returns-clause-written g c =
    let frames = flat_map hex_frame c.args.entries.now in
    appends_is _ _ (recording_head ++ (frames ++ codes "\n")) (recording_text c.args.entries.now)
    (recording_is c.args.entries.now)
    (Appends-trans _ _ _ recording_head (frames ++ codes "\n") c.in_ok-write_head.ensures.written
    (Appends-trans _ _ _ frames (codes "\n") c.in_ok-write_frames.ensures.written
    c.in_ok-put_all.ensures.written))

pub returns-clause-prefix : goal.returns-clause-prefix
returns-clause-prefix g c =
    let frames = flat_map hex_frame c.args.entries.now in
    prefix_is _ _ (recording_head ++ (frames ++ codes "\n")) (recording_text c.args.entries.now)
    (recording_is c.args.entries.now)
    (grows_after _ _ _ recording_head (frames ++ codes "\n") c.in_ok-write_head.ensures.written
    (grows_after _ _ _ frames (codes "\n") c.in_ok-write_frames.ensures.written
    c.in_ok-put_all.ensures.prefix))
