-- What calls of a seat, and splits and joins of it, add up to.
use Rattle.std.proofs.Common.{◌≡◌, ℕ, Some, List, [], ◌∷◌, ◌++◌, map, sym, ap, ◌∙◌}
use Rattle.std.proofs.Common.{subst, append-nil, append_assoc, arith}
use Rattle.std.proofs.lemmas.List.{map-append}
use mathlib.Core.List.{IsPrefix}
use Rattle.dp_hall.specs.declared.view.Entry.{Entry}
use Rattle.dp_hall.specs.declared.view.View.{View}
use Rattle.dp_hall.specs.Calls.{IsSound}
use Rattle.dp_hall.specs.Laws.{Continues, Rejoins, AllBackBut}
use Rattle.dp_hall.specs.Logs.{IsLegal}
use Rattle.dp_hall.specs.Rule.{child_name}
use Rattle.dp_crew.specs.Runs.{WorksOn}

prefix-then : {X : Type 0} (xs ys zs : List X) → IsPrefix xs ys → IsPrefix ys zs → IsPrefix xs zs
prefix-then xs ys zs p q = (
  p.0 ++ q.0,
  sym (append_assoc xs p.0 q.0) ∙ ap (λ l. l ++ q.0) p.1 ∙ q.1,
)

module _ {E O M : Type 0} where
  -- who is out stays so or is back
  abbrev pub KeepsBack : View E O M → View E O M → Type 0
  KeepsBack v w = (out : List (List ℕ)) → AllBackBut out v → AllBackBut out w

  pub works-calls : (v w : View E O M) (acts : List (Entry E O M)) → KeepsBack v w
      → Continues v acts w → WorksOn v acts w
  works-calls v w acts back h = record {
    name = ap (λ (u : View E O M). u.name) h.same;
    mine = h.mine;
    seen = h.seen;
    known = h.known;
    idle = [];
    olds = ap (λ (u : View E O M). u.olds) h.same ∙ sym (append-nil v.olds);
    made = ap (λ (u : View E O M). u.made) h.same ∙ sym (append-nil v.made);
    back = back;
  }

  pub works-pair : (v w : View E O M) (acts : List (Entry E O M)) → KeepsBack v w
      → Rejoins v acts [] w → WorksOn v acts w
  works-pair v w acts back h = record {
    name = h.name;
    mine = h.mine;
    seen = h.seen;
    known = h.known;
    idle = child_name v ∷ [];
    olds = h.olds;
    made = h.made;
    back = back;
  }

  pub works-both : (u v w : View E O M) (xs ys : List (Entry E O M)) → WorksOn u xs v
      → WorksOn v ys w → WorksOn u (xs ++ ys) w
  works-both u v w xs ys p q = record {
    name = q.name ∙ p.name;
    mine = q.mine ∙ ap (λ l. l ++ ys) p.mine ∙ append_assoc u.mine xs ys;
    seen = prefix-then u.seen v.seen w.seen p.seen q.seen;
    known = omega (arith, p.known, q.known);
    idle = p.idle ++ q.idle;
    olds =
        q.olds
        ∙ ap (λ l. l ++ map (λ n. (n, [])) q.idle) p.olds
        ∙ append_assoc u.olds (map (λ n. (n, [])) p.idle) (map (λ n. (n, [])) q.idle)
        ∙ ap (λ l. u.olds ++ l) (sym (map-append (λ n. (n, [])) p.idle q.idle));
    made =
        q.made
        ∙ ap (λ l. l ++ q.idle) p.made
        ∙ append_assoc u.made p.idle q.idle;
    back = λ out h. q.back out (p.back out h);
  }

  -- what a seat has seen is legal from the machine with which its hall began
  pub seen-legal : (may : M → E → O → M → Type 0) (start : M) (w : View E O M)
      → w.start ≡ Some start → IsSound may w → IsLegal may start w.seen
  seen-legal may start w is sound =
      let both : Some sound.legal.0 ≡ Some start = sym sound.legal.1 ∙ is in
      let one : sound.legal.0 ≡ start = cc in
      subst (λ (m : M). IsLegal may m w.seen) one sound.legal.2
