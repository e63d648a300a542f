-- The session was served, or couldn't be resumed.
use Rattle.std.proofs.Common.{◌≡◌, ◌∙◌, ap, arith, inl, inr, length, subst, sym}
use Rattle.dp_epochs.specs.Laws.{ShutBefore}
use Rattle.dp_session.specs.Resuming.{CountsFault}
use Rattle.dp_commands.proofs.Leaving.{resumed_sound}
use Rattle.dp_commands.proofs.server.run_server.Goals as goal

pub serve-wires-requires-clause-sound : goal.serve-wires-requires-clause-sound
serve-wires-requires-clause-sound g c κs within =
    subst ShutBefore (sym c.new-session.ensures)
    (resumed_sound c.in-Ok.session _ _ _ c.in-Ok.ensures.session)

pub returns-clause-ends : goal.returns-clause-ends
returns-clause-ends g c = λ s untouched.
    let same : length c.args.wires.items ≡ c.args.workers = omega (arith, c.args.wires.ok.0) in
    let served = c.serve-wires.result in
    inr (
      same,
      record {
        untouched = untouched;
        served = inl (record {
          start = c.in-Ok.session;
          resumes = c.in-Ok.ensures.session;
          rows = c.in-Ok.ensures.rows;
          memory = served.memory;
          store = served.store;
          wire = served.wire;
          serves = rw c.new-session.ensures at c.serve-wires.ensures;
          end_is = c.server_end.ensures;
        });
      },
    )

pub returns-clause-keeper : goal.returns-clause-keeper
returns-clause-keeper g c = λ other.
    absurd (other (omega (arith, c.args.wires.ok.0)))

pub returns-in-Err-clause-ends : goal.returns-in-Err-clause-ends
returns-in-Err-clause-ends g c = λ s untouched.
    let same : length c.args.wires.items ≡ c.args.workers = omega (arith, c.args.wires.ok.0) in
    let left = c.without-in-Err.ensures in
    let h = c.in-Err.ensures in
    inr (
      same,
      record {
        untouched = untouched;
        served = inr (record {
          why = c.in-Err.field-0.why;
          bad = h.bad;
          held = ap g.K.Keeper.held left.keeper ∙ h.held;
          reads = subst (CountsFault (g.K.Keeper.read_faults c.args.keeper) c.in-Err.field-0.why)
              (sym (ap g.K.Keeper.read_faults left.keeper)) h.cause;
          puts = ap g.K.Keeper.put_faults left.keeper ∙ h.puts;
          end_is = left.ending ∙ c.end_of_fault.ensures;
          stays = record { wires = ap (λ v. v.items) left.wires; nothing = left.nothing };
        });
      },
    )

pub returns-in-Err-clause-keeper : goal.returns-in-Err-clause-keeper
returns-in-Err-clause-keeper g c = λ other.
    absurd (other (omega (arith, c.args.wires.ok.0)))
