use Rattle.std.proofs.Common.{◌≡◌, sym, ap, subst, ◌∙◌, Some}
use mathlib.Core.Option.{some-injective}
use Rattle.dp_hall.specs.Calls.{IsAlone, Closes}
use Rattle.dp_hall.specs.declared.view.View.{View}
use Rattle.dp_hall.specs.declared.slot.Stored.{Stored}
use Rattle.dp_hall.proofs.SeatLemmas.{closes_with}
use Rattle.dp_hall.proofs.hall.Hall.close.Goals as goal

pub machine_back-machine-requires : goal.machine_back-machine-requires
machine_back-machine-requires g c =
    let f = c.close_with-closed.ensures.values.2 in
    let t = closes_with g.M.Machine.may_step _ f.0 f.1.0 _ _ f.1.1 c.into_token.ensures.sound
    (subst IsAlone (sym c.into_token.ensures.is.1) c.requires.alone) in
    (t.0, some-injective _ _ (sym c.take-slot.ensures.value ∙ f.4 0 (Some t.0) t.1))

the_stored : {E O M : Type 0} (a b : Stored E O M) → Some a ≡ Some b → a ≡ b
the_stored a b e = cc (e)

moved : {E O M : Type 0} (may : M → E → O → M → Type 0) (start start' : M) (v v' : View E O M)
    (m m' : M) → start ≡ start' → v ≡ v' → m ≡ m' → Closes may start v m → Closes may start' v' m'
moved {E = E} {O = O} {M = M} may start start' v v' m m' p q r h = subst
    (λ (z : M × View E O M × M). Closes may z.0 z.1 z.2) (λ i. (p i, q i, r i)) h

pub returns : goal.returns
returns g c =
    let f = c.close_with-closed.ensures.values.2 in
    let t = closes_with g.M.Machine.may_step _ f.0 f.1.0 _ _ f.1.1 c.into_token.ensures.sound
    (subst IsAlone (sym c.into_token.ensures.is.1) c.requires.alone) in
    let slot = some-injective _ _ (sym c.take-slot.ensures.value ∙ f.4 0 (Some t.0) t.1) in
    let r = c.machine_back-machine.ensures in
    let same = the_stored t.0 r.0 (sym slot ∙ r.1) in
    moved g.M.Machine.may_step _ _ _ _ _ _ (ap (λ h. h.start) c.self.view_is)
    c.into_token.ensures.is.1 (ap (λ d. d.machine.value) same ∙ sym r.2) t.2
