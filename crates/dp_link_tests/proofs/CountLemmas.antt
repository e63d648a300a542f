-- Bytes that are added, one after another.
use Rattle.std.proofs.Common.{◌≡◌, ℕ, ◌+◌, ◌||◌, Bool, false, true, List, [], ◌∷◌, ◌++◌, refl, sym, ap}
use Rattle.std.proofs.Common.{◌∙◌, arith, length-append}
use Rattle.std.specs.List.{list_any}
use Rattle.std.proofs.Math.Bool.{or-false}
use Rattle.std.proofs.lemmas.List.Folds.{list_any-append}
use Rattle.dp_hall.specs.declared.view.Entry.{Entry}
use Rattle.dp_hall.specs.declared.view.View.{View}
use Rattle.dp_hall.specs.Calls.{Acts}
use Rattle.dp_hall.specs.Laws.{Continues}
use Rattle.dp_link_tests.specs.Counting.{Came, Adds, ran_out, any_ran_out}

-- no outcome is a fault
pub no-fault : {M : Type 0} (acts : List (Entry ℕ Came M)) → false ≡ list_any (λ act. false) acts
no-fault [] = refl
no-fault (act ∷ acts) = no-fault acts

either : (a b : Bool) → a || b ≡ b || a
either true true = refl
either true false = refl
either false true = refl
either false false = refl

-- one byte more
pub adds-more : {M : Type 0} (v u w : View ℕ Came M) (count total : ℕ) (memory more : Bool)
    (byte : ℕ) (came : Came) (act : Acts u byte came w)
    → ((xs ys : List (Entry ℕ Came M)) → Continues v xs u → Continues u ys w
    → Continues v (xs ++ ys) w)
    → Continues u (act.entry ∷ []) w → total ≡ count + 1 → more ≡ ran_out came || memory
    → Adds v count memory u → Adds v total more w
adds-more {M} v u w count total memory more byte came act both once next is h = record {
  acts = h.acts ++ act.entry ∷ [];
  goes = both h.acts (act.entry ∷ []) h.goes once;
  count_is = omega (arith, next, h.count_is, length-append h.acts (act.entry ∷ []));
  memory_is =
      is
      ∙ either (ran_out came) memory
      ∙ ap (λ b. b || ran_out came) h.memory_is
      ∙ ap (λ b. any_ran_out h.acts || b)
      (ap ran_out (sym act.outcome_is) ∙ sym (or-false (ran_out act.entry.outcome)))
      ∙ sym (list_any-append (λ (e : Entry ℕ Came M). ran_out e.outcome) h.acts
      (act.entry ∷ []));
}
