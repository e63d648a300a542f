-- Links, and what the calls of a wire do with them, if they are known.
use Rattle.std.specs.Prelude.{◌≡◌, List, [], ◌∷◌, ◌++◌, Option, None, Some, Result, Ok, Err, ⊤}

-- The links of a wire: those to come, those handed out as they were then, and those handed back as
-- they came back. A link is the pair of its source and its sink.
pub record Links (R T : Type 0) : Type 0 where
  pub to_come : List (R × T)
  pub given : List (R × T)
  pub back : List (R × T)

-- The next link to come was handed out.
pub record HandsOut {R T : Type 0} (old : Links R T) (link : R × T) (new : Links R T) : Type 0 where
  pub next : old.to_come ≡ link ∷ new.to_come
  pub given : new.given ≡ old.given ++ link ∷ []
  pub back : new.back ≡ old.back

module _ {R T E : Type 0} where
  -- A link was handed out; or none was to come, and all stays; or there was an error, and all
  -- stays.
  abbrev pub HandsOutNext : Links R T → Result (Option (R × T)) E → Links R T → Type 0
  HandsOutNext old (Ok (Some link)) new = HandsOut old link new
  HandsOutNext old (Ok None) new = (old.to_come ≡ []) × (new ≡ old)
  HandsOutNext old (Err e) new = new ≡ old

-- Links that are known stay known, and this is what becomes of them.
abbrev pub WhereKnown : {A : Type 0} → Option A → (A → A → Type 0) → Option A → Type 0
WhereKnown None P new = ⊤
WhereKnown (Some old) P None = ⊥
WhereKnown (Some old) P (Some new) = P old new

module _ {R T E : Type 0} where
  -- what accept does: it hands out the next link, if there is one
  abbrev pub Accepts : Option (Links R T) → Result (Option (R × T)) E → Option (Links R T) → Type 0
  Accepts old result new = WhereKnown old (λ a b. HandsOutNext a result b) new

  -- what dial does: it hands out the next link, or leaves all
  abbrev pub Dials : Option (Links R T) → Result (R × T) E → Option (Links R T) → Type 0
  Dials old (Ok link) new = WhereKnown old (λ a b. HandsOut a link b) new
  Dials old (Err e) new = WhereKnown old (λ a b. b ≡ a) new

-- what done does: the link stands after those that came back before
abbrev pub GivesBack : {R T : Type 0} → Option (Links R T) → R → T → Option (Links R T) → Type 0
GivesBack old rx tx new = WhereKnown old (λ a b. b ≡ record a { back = a.back ++ (rx, tx) ∷ [] })
    new
