-- The rules of the layers: searching, changing and going through them.
use Rattle.std.proofs.Common.{◌≡◌, ◌≢◌, ℕ, zero, suc, ◌+◌, ◌-◌, ◌<◌, ◌≤◌, ◌==◌, Bool, true, false}
use Rattle.std.proofs.Common.{cond, if◌then◌else◌, List, [], ◌∷◌, ◌++◌, length, get_or, take, drop}
use Rattle.std.proofs.Common.{set, map, All, Option, Some, None, Result, Ok, Err, IfOk, IfErr, refl}
use Rattle.std.proofs.Common.{sym, ap, subst, ◌∙◌, arith}
use Rattle.std.specs.Option.{option_map}
use Rattle.std.specs.List.{insert}
use Rattle.std.specs.List.Sorted.{IsSearchInRange, IsBinarySearchResult, IsNonDecreasingBy}
use Rattle.std.specs.Ordering.{nat_cmp, ordering_index}
use Rattle.std.proofs.lemmas.Cmp.{ranked}
use Rattle.std.proofs.lemmas.Bool.{cond-true, cond-false, eq-eqb, ne_eqb, eqb-true}
use Rattle.std.proofs.lemmas.Bool.Decides.{nat_tests}
use Rattle.std.proofs.lemmas.List.{append_assoc, map_more}
use Rattle.std.proofs.lemmas.List.Edits.{length-insert, get_or-insert_below, get_or-insert_at}
use Rattle.std.proofs.lemmas.List.Edits.{get_or-insert_above}
use Rattle.std.proofs.lemmas.List.Elements.{All-tail, All-append, All-cons, All-take, All-drop}
use Rattle.dp_msg_meta.specs.declared.message.Meta.{Meta}
use Rattle.dp_acl.specs.declared.rules.Rule.{Rule}
use Rattle.dp_acl.specs.LookBack.{LayerRule}
use Rattle.dp_acl.specs.Table.{KeptRule, kept_rule}
use Rattle.dp_acl.specs.Marks.{marked}
use Rattle.dp_acl.specs.RuleTable.{acl_of, RulesRise}
use Rattle.dp_acl.specs.Inside.{kept_of, LayersRise, AreRules, IsPlaceOf, IsGapFor}

-- ---- searching

module _ (rules : List Rule) (layer : ℕ) (are : AreRules rules) where
  comparisons_rise : IsNonDecreasingBy (λ r. ordering_index (nat_cmp r.layer layer)) rules
  comparisons_rise i j d le short =
      let rise : (get_or rules i d).layer ≤ (get_or rules j d).layer =
      grind (arith, are.rise i j d, λ (same : i ≡ j). ap (λ k. (get_or rules k d).layer) same) in
      grind (arith, nat_tests)

  -- a binary search ends at the layer's rule, or at the gap for it
  pub search-found : (r : Result ℕ ℕ) → IsSearchInRange r (length rules)
      → IsBinarySearchResult (λ y. nat_cmp y.layer layer) rules r → IfOk r (IsPlaceOf rules layer)
  search-found (Ok place) within equal =
      record { within = within; same = λ d. ranked _ layer _ (sym (equal d)) }
  search-found (Err place) within parted = tt

  pub search-absent : (r : Result ℕ ℕ) → layer < 65536 → IsSearchInRange r (length rules)
      → IsBinarySearchResult (λ y. nat_cmp y.layer layer) rules r → IfErr r (IsGapFor rules layer)
  search-absent (Ok place) small within equal = tt
  search-absent (Err place) small within parted = record {
    small = small;
    within = within;
    below = λ k d lt. ranked _ layer _ (sym ((parted comparisons_rise).0 k d (omega arith) lt));
    above = λ k d le lt. ranked _ layer _ (sym ((parted comparisons_rise).1 k d le lt));
  }

-- ---- the rule of a layer

map-cond : {X Y : Type 0} (f : X → Y) (b : Bool) (x : X) (o : Option X)
    → option_map f (cond b (Some x) o) ≡ cond b (Some (f x)) (option_map f o)
map-cond f true x o = refl
map-cond f false x o = refl

-- the first rule is of the layer, or the others decide
pub kept_rule-cons : (k : KeptRule) (ks : List KeptRule) (layer : ℕ)
    → kept_rule (k ∷ ks) layer ≡ (if k.layer == layer then Some k.rule else kept_rule ks layer)
kept_rule-cons k ks layer = map-cond (λ kept. kept.rule) (k.layer == layer) k _

-- no rule before the place is of the layer
abbrev pub NoneBefore : List Rule → ℕ → ℕ → Type 0
NoneBefore rules layer place = (j : ℕ) (d : Rule) → j < place → (get_or rules j d).layer ≢ layer

pub kept-absent : (rules : List Rule) (layer : ℕ) → NoneBefore rules layer (length rules)
    → kept_rule (map kept_of rules) layer ≡ None
kept-absent [] layer none = refl
kept-absent (r ∷ rules) layer none =
    kept_rule-cons (kept_of r) (map kept_of rules) layer
    ∙ cond-false (r.layer == layer) (Some (kept_of r).rule) (kept_rule (map kept_of rules) layer)
    (ne_eqb r.layer layer (none 0 r (omega arith)))
    ∙ kept-absent rules layer (λ j d lt. none (suc j) d (omega arith))

pub kept-present : (rules : List Rule) (layer place : ℕ) (d : Rule) → place < length rules
    → (get_or rules place d).layer ≡ layer → NoneBefore rules layer place
    → kept_rule (map kept_of rules) layer ≡ Some (kept_of (get_or rules place d)).rule
kept-present [] layer place d within same none = absurd (omega arith)
kept-present (r ∷ rules) layer zero d within same none =
    kept_rule-cons (kept_of r) (map kept_of rules) layer
    ∙ cond-true (r.layer == layer) (Some (kept_of r).rule) (kept_rule (map kept_of rules) layer)
    (eq-eqb r.layer layer same)
kept-present (r ∷ rules) layer (suc place) d within same none =
    kept_rule-cons (kept_of r) (map kept_of rules) layer
    ∙ cond-false (r.layer == layer) (Some (kept_of r).rule) (kept_rule (map kept_of rules) layer)
    (ne_eqb r.layer layer (none 0 r (omega arith)))
    ∙ kept-present rules layer place d (omega arith) same (λ j e lt. none (suc j) e (omega arith))

cond-cond : {X : Type 0} (b : Bool) (u v w : X) → cond b u w ≡ cond b u (cond b v w)
cond-cond true u v w = refl
cond-cond false u v w = refl

cond-swap : {X : Type 0} (a b : Bool) (u v w : X) → (a ≡ true → b ≡ true → ⊥)
    → cond a u (cond b v w) ≡ cond b v (cond a u w)
cond-swap true true u v w not_both = absurd (not_both refl refl)
cond-swap true false u v w not_both = refl
cond-swap false b u v w not_both = refl

-- two layers that differ are not both the same one
apart : (a b q : ℕ) → a ≢ b → (a == q) ≡ true → (b == q) ≡ true → ⊥
apart a b q differ left right = differ (eqb-true a q left ∙ sym (eqb-true b q right))

module _ (r : Rule) where
  -- what is found if the rule stands among others
  abbrev With : List Rule → ℕ → Option LayerRule
  With rules q = if r.layer == q then Some (kept_of r).rule else kept_rule (map kept_of rules) q

  with-cons : (x : Rule) (xs ys : List Rule) (q : ℕ) → x.layer ≢ r.layer
      → kept_rule (map kept_of ys) q ≡ With xs q
      → kept_rule (map kept_of (x ∷ ys)) q ≡ With (x ∷ xs) q
  with-cons x xs ys q differ rest =
      kept_rule-cons (kept_of x) (map kept_of ys) q
      ∙ ap (λ o. if x.layer == q then Some (kept_of x).rule else o) rest
      ∙ cond-swap (x.layer == q) (r.layer == q) (Some (kept_of x).rule) (Some (kept_of r).rule)
      (kept_rule (map kept_of xs) q) (apart x.layer r.layer q differ)
      ∙ ap (λ o. if r.layer == q then Some (kept_of r).rule else o)
      (sym (kept_rule-cons (kept_of x) (map kept_of xs) q))

  -- in the place of the first rule of its layer
  pub kept-set : (rules : List Rule) (place : ℕ) → place < length rules
      → ((d : Rule) → (get_or rules place d).layer ≡ r.layer) → NoneBefore rules r.layer place
      → (q : ℕ) → kept_rule (map kept_of (set rules place r)) q ≡ With rules q
  kept-set [] place within same none q = absurd (omega arith)
  kept-set (x ∷ xs) zero within same none q =
      kept_rule-cons (kept_of r) (map kept_of xs) q
      ∙ cond-cond (r.layer == q) (Some (kept_of r).rule) (Some (kept_of x).rule)
      (kept_rule (map kept_of xs) q)
      ∙ ap (λ l. if r.layer == q then Some (kept_of r).rule
      else (if l == q then Some (kept_of x).rule else kept_rule (map kept_of xs) q)) (sym (same x))
      ∙ ap (λ o. if r.layer == q then Some (kept_of r).rule else o)
      (sym (kept_rule-cons (kept_of x) (map kept_of xs) q))
  kept-set (x ∷ xs) (suc place) within same none q =
      with-cons x xs (set xs place r) q (none 0 x (omega arith))
      (kept-set xs place (omega arith) same (λ j d lt. none (suc j) d (omega arith)) q)

  -- before any rule of its layer
  pub kept-insert : (rules : List Rule) (place : ℕ) → NoneBefore rules r.layer place
      → (q : ℕ) → kept_rule (map kept_of (insert rules place r)) q ≡ With rules q
  kept-insert rules zero none q = kept_rule-cons (kept_of r) (map kept_of rules) q
  kept-insert [] (suc place) none q = kept_rule-cons (kept_of r) [] q
  kept-insert (x ∷ xs) (suc place) none q =
      with-cons x xs (insert xs place r) q (none 0 x (omega arith))
      (kept-insert xs place (λ j d lt. none (suc j) d (omega arith)) q)

-- ---- at a place, and in a gap

module _ (rules : List Rule) (layer place : ℕ) (are : AreRules rules)
    (at : IsPlaceOf rules layer place)
  where
    none_before_place : NoneBefore rules layer place
    none_before_place j d lt same = omega (arith, are.rise j place d lt at.within, at.same d)

    pub found-at : (r : Rule) → r ≡ get_or rules place r
        → Some (kept_of r).rule ≡ kept_rule (map kept_of rules) layer
    found-at r read =
        ap (λ x. Some (kept_of x).rule) read
        ∙ sym (kept-present rules layer place r at.within (at.same r) none_before_place)

    pub put-at : (r : Rule) → r.layer ≡ layer → (q : ℕ)
        → kept_rule (map kept_of (set rules place r)) q
        ≡ (if r.layer == q then Some (kept_of r).rule else kept_rule (map kept_of rules) q)
    put-at r is q =
        kept-set r rules place at.within (λ d. at.same d ∙ sym is)
        (λ j d lt same. none_before_place j d lt (same ∙ is)) q

module _ (rules : List Rule) (layer place : ℕ) (are : AreRules rules)
    (gap : IsGapFor rules layer place)
  where
    none_before_gap : NoneBefore rules layer place
    none_before_gap j d lt same = omega (arith, gap.below j d lt)

    none_in_gap : NoneBefore rules layer (length rules)
    none_in_gap j d lt same = grind (arith, gap.below j d, gap.above j d)

    pub absent-in : None ≡ kept_rule (map kept_of rules) layer
    absent-in = sym (kept-absent rules layer none_in_gap)

    pub put-in : (r : Rule) → r.layer ≡ layer → (q : ℕ)
        → kept_rule (map kept_of (insert rules place r)) q
        ≡ (if r.layer == q then Some (kept_of r).rule else kept_rule (map kept_of rules) q)
    put-in r is q =
        kept-insert r rules place (λ j d lt same. none_before_gap j d lt (same ∙ is)) q

    -- the layers still rise with a rule in the gap
    rise-insert : (r : Rule) → r.layer ≡ layer → LayersRise (insert rules place r)
    rise-insert r is i j d lt short =
        let new : List Rule = insert rules place r in
        let long = length-insert rules place r gap.within in
        let key : List Rule → ℕ → ℕ = λ xs k. (get_or xs k d).layer in
        let below : (k : ℕ) → k < place → key new k ≡ key rules k =
        λ k low. ap (λ (x : Rule). x.layer) (get_or-insert_below rules place r d k low gap.within)
        in
        let here : (k : ℕ) → k ≡ place → key new k ≡ layer =
        λ k same. ap (key new) same
        ∙ ap (λ (x : Rule). x.layer) (get_or-insert_at rules place r d gap.within) ∙ is in
        let above : (k : ℕ) → place < k → key new k ≡ key rules (k - 1) =
        λ k high. subst (λ q. key new q ≡ key rules (k - 1)) {x = k - 1 + 1} (omega arith)
        (ap (λ (x : Rule). x.layer) (get_or-insert_above rules place r d (k - 1) (omega arith)
        gap.within)) in
        grind (
          arith,
          below i,
          here i,
          above i,
          below j,
          here j,
          above j,
          are.rise i j d,
          are.rise i (j - 1) d,
          are.rise (i - 1) (j - 1) d,
          gap.below i d,
          gap.above (j - 1) d,
        )

    pub are-insert : (r : Rule) → r.layer ≡ layer → length (marked r.ids) ≤ 255
        → AreRules (insert rules place r)
    are-insert r is few = record {
      rise = rise-insert r is;
      layers = All-append (λ x. x.layer < 65536) (take place rules) (r ∷ drop place rules)
          (All-take (λ x. x.layer < 65536) place rules are.layers)
          (All-cons (λ x. x.layer < 65536) r (drop place rules) (omega (arith, is, gap.small))
          (All-drop (λ x. x.layer < 65536) place rules are.layers));
      short = All-append (λ x. length (marked x.ids) ≤ 255) (take place rules)
          (r ∷ drop place rules)
          (All-take (λ x. length (marked x.ids) ≤ 255) place rules are.short)
          (All-cons (λ x. length (marked x.ids) ≤ 255) r (drop place rules) few
          (All-drop (λ x. length (marked x.ids) ≤ 255) place rules are.short));
    }

-- ---- going through them

rise-from : (low : ℕ) (rules : List Rule) → LayersRise rules → All (λ r. r.layer < 65536) rules
    → ((d : Rule) → 0 < length rules → low ≤ (get_or rules 0 d).layer)
    → RulesRise low (map kept_of rules)
rise-from low [] rise layers first = tt
rise-from low (r ∷ rules) rise layers first = (
  first r (omega arith),
  layers 0 r (omega arith),
  rise-from (suc r.layer) rules (λ i j d lt short. rise (suc i) (suc j) d (omega arith)
      (omega arith))
      (All-tail (λ x. x.layer < 65536) r rules layers)
      (λ d some. rise 0 1 d (omega arith) (omega arith)),
)

-- the rules as they are kept rise
pub rise-kept : (rules : List Rule) → AreRules rules → RulesRise 0 (map kept_of rules)
rise-kept rules are = rise-from 0 rules are.rise are.layers (λ d some. omega arith)

-- the messages of the rules
pub acls-kept : (rules : List Rule) → map (λ r. acl_of (kept_of r)) rules
    ≡ map acl_of (map kept_of rules)
acls-kept [] = refl
acls-kept (r ∷ rules) = ap (λ ms. acl_of (kept_of r) ∷ ms) (acls-kept rules)

-- the messages so far, with the one of the next rule
pub acls-more : (was before after : List Meta) (rules : List Rule) (i : ℕ) (d : Rule) (m : Meta)
    → i < length rules → before ≡ was ++ map (λ r. acl_of (kept_of r)) (take i rules)
    → after ≡ before ++ m ∷ [] → m ≡ acl_of (kept_of (get_or rules i d))
    → after ≡ was ++ map (λ r. acl_of (kept_of r)) (take (i + 1) rules)
acls-more was before after rules i d m short so_far pushed is =
    pushed
    ∙ ap (λ ms. ms ++ m ∷ []) so_far
    ∙ append_assoc was (map (λ r. acl_of (kept_of r)) (take i rules)) (m ∷ [])
    ∙ ap (λ x. was ++ (map (λ r. acl_of (kept_of r)) (take i rules) ++ x ∷ [])) is
    ∙ ap (λ ms. was ++ ms) (sym (map_more (λ r. acl_of (kept_of r)) rules i d short))
