use Rattle.dp_entries.proofs.Reading.{reads_piece, piece_falls}
use Rattle.dp_entries.proofs.Onward.{on_reads}
use Rattle.std.proofs.Common.{subst, sym, take}
use Rattle.dp_entries.specs.Onward.{AreBytes}
use Rattle.dp_entries.specs.Reader.{room_of}
use Rattle.dp_entries.proofs.Onward.{bytes_first, bytes_then}
use Rattle.dp_entries.proofs.reader.EntryReader.push.Goals as goal

pub returns-in-Ok-clause-read : goal.returns-in-Ok-clause-read
returns-in-Ok-clause-read g c = λ input left rest entries few consumes h.
    let e = c.feed.ensures in
    reads_piece g.S.Standing.may_stand input left rest entries c.args.self.now c.feed.new.self
    c.args.bytes.now c.requires.none c.requires.not_over few consumes
    c.in-Ok.ensures.held e.place.at e.count e.place.first e.place.limit c.in-Ok.ensures.over h

pub returns-in-Ok-clause-further : goal.returns-in-Ok-clause-further
returns-in-Ok-clause-further g c = λ some.
    let e = c.feed.ensures in
    piece_falls c.args.self.now c.feed.new.self c.args.bytes.now c.requires.not_over e.before
    c.in-Ok.ensures.held e.place.at e.place.first e.place.limit c.in-Ok.ensures.over some

pub returns-in-Ok-clause-goes_on : goal.returns-in-Ok-clause-goes_on
returns-in-Ok-clause-goes_on g c = λ source left rest start entries consumes h.
    let e = c.feed.ensures in
    on_reads h rest c.feed.new.self c.args.bytes.now c.requires.not_over consumes
    c.in-Ok.ensures.held e.place.at e.count e.place.first e.place.limit c.in-Ok.ensures.over

pub returns-in-Ok-clause-bytes : goal.returns-in-Ok-clause-bytes
returns-in-Ok-clause-bytes g c = λ small.
    let room = room_of c.args.self.now in
    subst AreBytes (sym c.in-Ok.ensures.held)
    (bytes_then c.args.self.now.stream.held (take room c.args.bytes.now) small
    (bytes_first room c.args.bytes.now c.feed.ensures.small))
