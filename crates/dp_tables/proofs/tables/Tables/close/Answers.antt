use Rattle.std.proofs.Common.{◌≡◌, length, arith, refl, ap, ◌∙◌, ◌++◌, ◌∷◌, []}
use Rattle.dp_tables.proofs.TableLemmas.{tables-left}
use Rattle.dp_tables.proofs.tables.Tables.close.Goals as goal

pub invariant_of-self : goal.invariant_of-self
invariant_of-self c =
    let t = c.self.inside in
    let conn = c.args.conn in
    let count : c.len-n.result ≡ length t.journal.items = omega
    (arith, t.journal.ok.0, c.len-n.ensures) in
    tables-left c.steps_lead_on.ensures.refused t
    (record t { shut = c.push_reserved.new.self; roster = c.shut.new.self }) conn
    c.self.invariant (record {
      journal = refl;
      bytes = refl;
      shut = c.push_reserved.ensures.items
          ∙ ap (λ n. t.shut.items ++ record { conn = conn; n = n } ∷ []) count;
      connections = c.shut.ensures.connections;
      quiet = ap (λ q. q.items) c.shut.ensures.quiet;
      epoch = refl;
      live = refl;
      rights = refl;
      present = c.shut.ensures.present;
      opens = c.shut.ensures.opens;
      owner = refl;
      place = refl;
      parts = refl;
      part_bytes = refl;
      frames = refl;
    })
