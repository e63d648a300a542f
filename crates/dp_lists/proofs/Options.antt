-- Values that may be there.
use Rattle.std.proofs.Common.{◌≡◌, ◌⊎◌, Option, None, Some, refl, subst, inl, inr}
use Rattle.std.specs.Prelude.{IfSome}
use Rattle.std.specs.Option.{option_map_or}

-- what holds of each value that may come of an option
pub option_both : {T U : Type 0} (f : T → U) (o : Option T) (d : U) (P : U → Type 0)
    → ((x : T) → o ≡ Some x → P (f x)) → P d → P (option_map_or f o d)
option_both f None d P at_some at_none = at_none
option_both f (Some x) d P at_some at_none = at_some x refl

-- what may come of an option, if it counts that there is no value
pub option_either : {T U : Type 0} (f : T → U) (o : Option T) (d : U) (P : U → Type 0)
    → ((x : T) → o ≡ Some x → P (f x)) → (o ≡ None → P d) → P (option_map_or f o d)
option_either f None d P at_some at_none = at_none refl
option_either f (Some x) d P at_some at_none = at_some x refl

pub cases_option : {T : Type 0} (o : Option T) → (o ≡ None) ⊎ ((x : T) × (o ≡ Some x))
cases_option None = inl refl
cases_option (Some x) = inr (x, refl)

-- a fact of the value in an option
pub at_some : {T : Type 0} (o : Option T) (P : T → Type 0) (x : T) → IfSome o P → o ≡ Some x → P x
at_some None P x h is = cc
at_some (Some y) P x h is = let same : y ≡ x = cc in subst P same h

pub if_some : {T : Type 0} (o : Option T) (P : T → Type 0) → ((x : T) → o ≡ Some x → P x)
    → IfSome o P
if_some None P h = tt
if_some (Some x) P h = h x refl
