use Rattle.std.proofs.Common.{◌≡◌, length, refl, sym, ap, subst, ◌∙◌, arith, map}
use Rattle.dp_epochs.specs.Effects.{connections_at, live_after}
use Rattle.dp_history.specs.Items.{entry_in}
use Rattle.dp_history.specs.Made.{AreMadeOf}
use Rattle.dp_commit.specs.Sending.{start_of, next_place}
use Rattle.dp_commit.specs.Placed.{AreFramesWith}
use Rattle.dp_commit.specs.Tables.{seen_in}
use Rattle.dp_commit.proofs.PlacedLemmas.{next-is, supply-few, says-own}
use Rattle.dp_commit.proofs.MarksLemmas.{there-by, flags-after}
use Rattle.dp_commit.proofs.ResetLemmas.{frames-kept}
use Rattle.dp_commit.proofs.StateLemmas.{here-is, state-kept}
use Rattle.dp_commit.proofs.keeping.keep_beside.Goals as goal

pub keep-event-requires-clause-says : goal.keep-event-requires-clause-says
keep-event-requires-clause-says c =
    let may = c.requires.may in
    says-own may.0 c.args.made.event c.args.made.effect may.1.does

pub keep-event-requires-clause-said : goal.keep-event-requires-clause-said
keep-event-requires-clause-said c = c.requires.may.1.of.said

pub keep-event-requires-clause-made : goal.keep-event-requires-clause-made
keep-event-requires-clause-made c =
    subst (AreMadeOf c.args.live.now.frames) (sym c.requires.may.1.of.entries)
    c.requires.may.1.frames

pub keep-event-requires-clause-history : goal.keep-event-requires-clause-history
keep-event-requires-clause-history c =
    let may = c.requires.may in
    omega (
      arith,
      c.requires.room.history,
      supply-few c.args.journal.now may.0 c.args.made.event c.args.made.effect may.1.does
          c.args.made.supply may.1.places,
    )

pub keep-event-requires-clause-rights : goal.keep-event-requires-clause-rights
keep-event-requires-clause-rights c =
    let may = c.requires.may in
    omega (
      arith,
      c.requires.room.rights,
      supply-few c.args.journal.now may.0 c.args.made.event c.args.made.effect may.1.does
          c.args.made.supply may.1.places,
    )

pub note-requires-clause-within : goal.note-requires-clause-within
note-requires-clause-within c = c.requires.may.1.of.reset.within

pub note-requires-2-clause-there : goal.note-requires-2-clause-there
note-requires-2-clause-there c =
    let may = c.requires.may in
    there-by may.0 c.args.made.event c.args.made.effect c.args.roster.now.connections.items
    may.1.does (sym may.1.of.table)

pub returns-clause-flags : goal.returns-clause-flags
returns-clause-flags c = λ same.
    ap length c.note-2.ensures.quiet
    ∙ flags-after _ c.args.made.effect c.args.roster.now.quiet.items
    c.args.roster.now.connections.items same
    ∙ sym (ap length c.note-2.ensures.connections)

pub returns-clause-of : goal.returns-clause-of
returns-clause-of c = λ s may.
    let made = c.args.made in
    let e = made.event in
    let J = c.args.journal.now in
    let sending = c.args.sending.now in
    let live = c.args.live.now in
    let old = seen_in J c.args.roster.now sending live in
    let keeps = c.keep-event.ensures in
    let reset = c.note.ensures in
    let roster = c.note-2.ensures in
    let count : c.len-end.result ≡ length live.history.items = omega
    (arith, live.history.ok.0, c.len-end.ensures) in
    let here_is = here-is s old may.of live.number c.len-end.result refl count in
    state-kept
    (λ s. record {
      present = c.joins_stay.ensures.present s;
      joined = c.joins_stay.ensures.joined s;
    })
    c.effects_are_made.ensures s old _ e made.effect made.supply c.args.size may.of may.does
    may.places may.long (record {
      journal = refl;
      connections = roster.connections
          ∙ ap (λ p. connections_at p c.args.roster.now.connections.items made.effect) here_is;
      epoch = keeps.number;
      live = keeps.history;
      stands = keeps.stands s.live (live_after s e made.effect) may.of.stands
          (next-is J s e made.effect may.does made.supply may.places);
      present = roster.present;
      opens = roster.opens;
      owner = reset.owner;
      place = reset.place ∙ ap (λ x. next_place x made.effect sending.place) keeps.event;
      parts = reset.parts;
      part_bytes = reset.bytes;
    })

pub returns-clause-frames : goal.returns-clause-frames
returns-clause-frames c = λ s may.
    let made = c.args.made in
    let J = c.args.journal.now in
    let sending = c.args.sending.now in
    let live = c.args.live.now in
    let made_is = c.effects_are_made.ensures s made.event made.effect may.does in
    let end : c.len-end.result ≡ length live.history.items = omega
    (arith, live.history.ok.0, c.len-end.ensures) in
    let from : c.start-from.result
    ≡ start_of sending.owner sending.place (length live.history.items) =
    c.start-from.ensures ∙ ap (start_of sending.owner sending.place) end in
    subst (AreMadeOf c.keep-event.new.self.frames) (sym (ap (λ a. a.state.live) made_is))
    (frames-kept s (seen_in J c.args.roster.now sending live) may.of made.event made.effect
    made.supply live.frames c.keep-event.new.self.frames may.places
    (subst (λ n. AreFramesWith (map (entry_in J) live.history.items) n made.supply live.frames
    c.keep-event.new.self.frames) from c.keep-event.ensures.frames)
    may.frames)
