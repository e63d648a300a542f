use Rattle.std.proofs.Common.{◌≡◌, List, [], ◌∷◌, ◌++◌, sym, ◌∙◌, rules, None, Some}
use Rattle.dp_hall.proofs.StepLemmas.{opens}
use Rattle.dp_hall.proofs.hall.Hall.start.Goals as goal

pub new-requires-2 : goal.new-requires-2
new-requires-2 g c =
    let items : c.push.new.self.items ≡ Some (record { machine = c.in-Ok.machine; last = None })
    ∷ [] = search rules in
    rw items (opens g.M.Machine.may_step c.of-about.result.value
    (record { machine = c.in-Ok.machine; last = None }) (search rules))

-- the last of one
last_is : {A : Type 0} (prefix : List A) (a b : A) → prefix ++ b ∷ [] ≡ a ∷ [] → b ≡ a
last_is [] a b e = cc (e)
last_is (x ∷ []) a b e = absurd (cc (e))
last_is (x ∷ y ∷ l) a b e = absurd (cc (e))

pub machine_back-requires-in-Err-new : goal.machine_back-requires-in-Err-new
machine_back-requires-in-Err-new g c =
    let items : c.push.new.self.items ≡ Some (record { machine = c.in-Ok.machine; last = None })
    ∷ [] = search rules in
    let back : c.in-Err-new.field-0.slots.items ≡ c.push.new.self.items = search rules in
    let popped = c.in-Some.ensures.items in (
      record { machine = c.in-Ok.machine; last = None },
      last_is c.pop.new.self.items
          (Some (record { machine = c.in-Ok.machine; last = None })) c.in-Some.slot
          (sym popped ∙ (back ∙ items)),
    )
