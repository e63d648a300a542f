-- The laws of rights.
use Rattle.std.proofs.Common.{◌≡◌, ℕ, zero, suc, ◌+◌, ◌<◌, ◌==◌, ◌&&◌, ◌||◌, not, Bool, true, false}
use Rattle.std.proofs.Common.{if◌then◌else◌, List, [], ◌∷◌, ◌++◌, Option, Some, None, unwrap_or}
use Rattle.std.proofs.Common.{refl, sym, ap, subst, ◌∙◌, inl, inr, arith, append_assoc, append-nil}
use Rattle.std.proofs.Common.{zero-add}
use Rattle.std.specs.List.{filter, range_with_len}
use Rattle.std.specs.Option.{option_map_or, option_or}
use Rattle.std.proofs.lemmas.Bool.{cases_eq, cond-true, cond-false, eq-eqb, ne_eqb}
use Rattle.dp_msg_draw.specs.declared.draw.Draw.{Draw}
use Rattle.dp_msg_draw.specs.declared.draw.Draw.TheVariants as draw
use Rattle.dp_msg_meta.specs.Fields.{RiseFrom}
use Rattle.dp_msg_meta.specs.declared.message.Tiers.{Tiers}
use Rattle.dp_msg_meta.specs.declared.message.Control.{Control}
use Rattle.dp_msg_meta.specs.declared.message.Control.TheVariants as control
use Rattle.dp_msg_meta.specs.declared.message.Meta.{Meta}
use Rattle.dp_msg_meta.specs.declared.message.Meta.TheVariants as meta
use Rattle.dp_messages.specs.declared.message.Msg.{Msg}
use Rattle.dp_messages.specs.declared.message.Msg.TheVariants as msg
use Rattle.dp_messages.specs.declared.message.Entry.{Entry}
use Rattle.dp_acl.specs.LookBack as said
use Rattle.dp_acl.specs.LookBack.{numbers_below, lists, is_join_of, has_joined, owners, LayerRule}
use Rattle.dp_acl.specs.LookBack.{layer_rule}
use Rattle.dp_acl.specs.Rights.{is_operator, is_trusted, is_registered, are_all_locked}
use Rattle.dp_acl.specs.Rights.{is_lock_listed, is_locked, tier_of, tiers_of, has_feature, rule_of}
use Rattle.dp_acl.specs.Rights.{lets_paint, may_paint, may_edit_layer, creator_of}
use Rattle.dp_acl.specs.Permitted.{permits_control, permits_meta, permits_draw, permitted}
use Rattle.dp_acl.specs.Laws.{filtered, ForbiddenChangesNoRight, OperatorsStay}
use Rattle.dp_acl.specs.Laws.{SpelledIdsAreInOrder}
use Rattle.dp_acl.proofs.ListLemmas.{filter-same, filter-none, All-range}
use Rattle.dp_acl.proofs.PushLemmas.{joined-push, listed_after, listed-push, registered-push}
use Rattle.dp_acl.proofs.PushLemmas.{all_locked-push, tiers-push, rule-push}

-- ---- ids in order

-- ids that rise from above a number don't list it
pub lists-below : (low id : ℕ) (ids : List ℕ) → RiseFrom low ids → id < low → lists ids id ≡ false
lists-below low id [] rise below = refl
lists-below low id (i ∷ ids) rise below =
    ap (λ b. b || lists ids id) (ne_eqb i id (λ e. omega (arith, rise.0)))
    ∙ lists-below (i + 1) id ids rise.2 (omega (arith, rise.0))

order-range : (n low : ℕ) (ids : List ℕ) → low + n ≡ 256 → RiseFrom low ids
    → filter (lists ids) (range_with_len low n) ≡ ids
order-range n low [] all rise = filter-none (range_with_len low n)
order-range zero low (id ∷ ids) all rise = absurd (omega (arith, rise.0, rise.1))
order-range (suc n) low (id ∷ ids) all rise = elim (cases_eq id low) [
  | inl same ↦
      let rest : RiseFrom (low + 1) ids = subst (λ l. RiseFrom (l + 1) ids) same rise.2 in
      cond-true (lists (id ∷ ids) low) (low ∷ filter (lists (id ∷ ids))
      (range_with_len (low + 1) n))
      (filter (lists (id ∷ ids)) (range_with_len (low + 1) n))
      (ap (λ b. b || lists ids low) (eq-eqb id low same))
      ∙ ap (λ k. k ∷ filter (lists (id ∷ ids)) (range_with_len (low + 1) n)) (sym same)
      ∙ ap (λ ks. id ∷ ks)
      (filter-same (lists (id ∷ ids)) (lists ids) (range_with_len (low + 1) n)
      (All-range (λ k. lists (id ∷ ids) k ≡ lists ids k) (low + 1) n
      (λ k above below. ap (λ b. b || lists ids k) (ne_eqb id k (λ e. omega arith))))
      ∙ order-range n (low + 1) ids (omega arith) rest)
  | inr differ ↦
      let above : RiseFrom (low + 1) (id ∷ ids) = (omega (arith, rise.0), rise.1, rise.2) in
      cond-false (lists (id ∷ ids) low) (low ∷ filter (lists (id ∷ ids))
      (range_with_len (low + 1) n))
      (filter (lists (id ∷ ids)) (range_with_len (low + 1) n))
      (lists-below (low + 1) low (id ∷ ids) above (omega arith))
      ∙ order-range n (low + 1) (id ∷ ids) (omega arith) above
]

order-numbers : (n : ℕ) (ids : List ℕ) → n ≡ 256 → RiseFrom 0 ids
    → filter (lists ids) (numbers_below n) ≡ ids
unfolding numbers_below
order-numbers n ids all rise = order-range n 0 ids (zero-add n ∙ all) rise

rise-lower : (low : ℕ) (ids : List ℕ) → RiseFrom low ids → RiseFrom 0 ids
rise-lower low [] rise = tt
rise-lower low (id ∷ ids) rise = (omega arith, rise.1, rise.2)

pub spelled_in_order : SpelledIdsAreInOrder
spelled_in_order low ids rise = order-numbers 256 ids refl (rise-lower low ids rise)

-- ---- histories that look the same

-- what looking back finds of a user and a layer
pub record Look : Type 0 where
  pub joined : Bool
  pub operator : Bool
  pub trusted : Bool
  pub registered : Bool
  pub all_locked : Bool
  pub lock_listed : Bool
  pub tiers : Tiers
  pub rule : Option LayerRule

abbrev pub look : List Entry → ℕ → ℕ → Look
look history user layer = record {
  joined = has_joined history user;
  operator = is_operator history user;
  trusted = is_trusted history user;
  registered = is_registered history user;
  all_locked = are_all_locked history;
  lock_listed = is_lock_listed history user;
  tiers = tiers_of history;
  rule = rule_of history layer;
}

-- what is looked up of a history, after one more entry
abbrev pub look_after : ℕ → ℕ → Entry → Look → Look
look_after user layer e l = record {
  joined = is_join_of user e || l.joined;
  operator = listed_after (is_join_of user e) l.joined (said.owners e.msg) l.operator user;
  trusted = listed_after (is_join_of user e) l.joined (said.trusted e.msg) l.trusted user;
  registered = if is_join_of user e then unwrap_or (said.joined e.msg) false else l.registered;
  all_locked = option_map_or (λ listed. lists listed 0) (said.locked_users e.msg) l.all_locked;
  lock_listed =
      listed_after (is_join_of user e) l.joined (said.locked_users e.msg) l.lock_listed user;
  tiers = unwrap_or (said.feature_tiers e.msg) l.tiers;
  rule = option_or (layer_rule layer e.msg) l.rule;
}

pub look-push : (history : List Entry) (e : Entry) (user layer : ℕ)
    → look (history ++ e ∷ []) user layer ≡ look_after user layer e (look history user layer)
look-push history e user layer =
    cc (
      joined-push history e user,
      listed-push said.owners user history e,
      listed-push said.trusted user history e,
      registered-push history e user,
      all_locked-push history e,
      listed-push said.locked_users user history e,
      tiers-push history e,
      rule-push history e layer,
    )

module _ (user layer : ℕ) where
  -- with the same entries after
  look-append : (after one other : List Entry) → look one user layer ≡ look other user layer
      → look (one ++ after) user layer ≡ look (other ++ after) user layer
  look-append [] one other same =
      ap (λ es. look es user layer) (append-nil one) ∙ same
      ∙ ap (λ es. look es user layer) (sym (append-nil other))
  look-append (e ∷ after) one other same =
      ap (λ es. look es user layer) (sym (append_assoc one (e ∷ []) after))
      ∙ look-append after (one ++ e ∷ []) (other ++ e ∷ [])
      (look-push one e user layer ∙ ap (look_after user layer e) same
      ∙ sym (look-push other e user layer))
      ∙ ap (λ es. look es user layer) (append_assoc other (e ∷ []) after)

  -- an entry that stands in place of a forbidden message
  look-filtered : (before after : List Entry) (sender kind : ℕ)
      → look (before ++ filtered sender kind ∷ after) user layer ≡ look (before ++ after) user layer
  look-filtered before after sender kind =
      ap (λ es. look es user layer) (sym (append_assoc before (filtered sender kind ∷ []) after))
      ∙ look-append after (before ++ filtered sender kind ∷ []) before
      (look-push before (filtered sender kind) user layer)

-- ---- what is permitted in them

-- what is looked up, without the rule of the layer
abbrev pub but_rule : Look → Look
but_rule l = record l { rule = None }

-- the rules of a layer after two histories let a user paint alike
abbrev pub LetAlike : List Entry → List Entry → ℕ → ℕ → Type 0
LetAlike one other user layer =
    option_map_or (lets_paint other user) (rule_of one layer) true
    ≡ option_map_or (lets_paint other user) (rule_of other layer) true

-- the layer that a command paints on, 0 if it paints on none
abbrev pub painted_by : Draw → ℕ
painted_by (draw.PutImage layer mode x y w h colors) = layer
painted_by (draw.FillRect layer mode x y w h color) = layer
painted_by (draw.PutTile layer col row repeat content) = layer
painted_by (draw.DabsRound layer x y r g b mode dabs) = layer
painted_by (draw.DabsSquare layer x y r g b mode dabs) = layer
painted_by (draw.MoveRect layer sx sy w h tx ty) = layer
painted_by m = 0

-- the layer that a message paints on, likewise
abbrev pub painted_layer : Msg → ℕ
painted_layer (msg.Draw command) = painted_by command
painted_layer m = 0

module _ (one other : List Entry) (user : ℕ)
    (same : but_rule (look one user 0) ≡ but_rule (look other user 0)) where
  operator-same : is_operator one user ≡ is_operator other user
  operator-same = ap (λ l. l.operator) same

  tier-same : tier_of one user ≡ tier_of other user
  tier-same =
      let trusted = ap (λ l. l.trusted) same in
      let registered = ap (λ l. l.registered) same in
      cc (operator-same, trusted, registered)

  locked-same : is_locked one user ≡ is_locked other user
  locked-same =
      let all = ap (λ l. l.all_locked) same in
      let listed = ap (λ l. l.lock_listed) same in
      cc (operator-same, all, listed)

  feature-same : (feature : Tiers → ℕ) → has_feature one user feature
      ≡ has_feature other user feature
  feature-same feature =
      let tiers = ap (λ l. l.tiers) same in
      cc (tier-same, tiers)

  use-same : (feature : Tiers → ℕ)
      → (not (is_locked one user) && has_feature one user feature)
      ≡ (not (is_locked other user) && has_feature other user feature)
  use-same feature = cc (locked-same, feature-same feature)

  lets-same : (o : Option LayerRule)
      → option_map_or (lets_paint one user) o true ≡ option_map_or (lets_paint other user) o true
  lets-same None = refl
  lets-same (Some rule) = cc (operator-same, tier-same)

  paint-same : (layer : ℕ) → LetAlike one other user layer
      → may_paint one user layer ≡ may_paint other user layer
  paint-same layer alike = cc (locked-same, alike, lets-same (rule_of one layer))

  paint_by-same : (layer : ℕ) (feature : Tiers → ℕ) → LetAlike one other user layer
      → (may_paint one user layer && has_feature one user feature)
      ≡ (may_paint other user layer && has_feature other user feature)
  paint_by-same layer feature alike = cc (paint-same layer alike, feature-same feature)

  edit-same : (layer : ℕ) → may_edit_layer one user layer ≡ may_edit_layer other user layer
  edit-same layer =
      cc (
        locked-same,
        feature-same (λ tiers. tiers.edit_layers),
        feature-same (λ tiers. tiers.own_layers),
      )

  undo-cases : (own : Bool)
      → (if own then not (is_locked one user) && has_feature one user (λ tiers. tiers.undo)
      else is_operator one user)
      ≡ (if own then not (is_locked other user) && has_feature other user (λ tiers. tiers.undo)
      else is_operator other user)
  undo-cases own = cc (use-same (λ tiers. tiers.undo), operator-same)

  control-same : (m : Control) → permits_control one user m ≡ permits_control other user m
  control-same control.ResetBegin = operator-same
  control-same control.ResetEnd = operator-same
  control-same (control.ResetFrom at) = operator-same
  control-same _ = refl

  meta-same : (m : Meta) → permits_meta one user m ≡ permits_meta other user m
  meta-same (meta.Owners ids) = operator-same
  meta-same (meta.Trusted ids) = operator-same
  meta-same (meta.Laser x y) = feature-same (λ tiers. tiers.laser)
  meta-same (meta.UserAcl ids) = operator-same
  meta-same (meta.LayerAcl layer locked tier ids) = ap (λ b. b || creator_of layer == user)
      operator-same
  meta-same (meta.FeatureTiers tiers) = operator-same
  meta-same (meta.UndoDepth depth) = operator-same
  meta-same _ = refl

  draw-same : (m : Draw) → LetAlike one other user (painted_by m)
      → permits_draw one user m ≡ permits_draw other user m
  draw-same (draw.CanvasResize top right bottom left) alike = use-same (λ tiers. tiers.resize)
  draw-same (draw.LayerCreate id parent group title) alike = edit-same id
  draw-same (draw.LayerAttr id opacity mode hidden) alike = edit-same id
  draw-same (draw.LayerTitle id title) alike = edit-same id
  draw-same (draw.LayerMove id parent above) alike = edit-same id
  draw-same (draw.LayerDelete id) alike = edit-same id
  draw-same (draw.PutImage layer mode x y w h colors) alike =
      paint_by-same layer (λ tiers. tiers.image) alike
  draw-same (draw.FillRect layer mode x y w h color) alike = paint-same layer alike
  draw-same (draw.PutTile layer col row repeat content) alike =
      paint_by-same layer (λ tiers. tiers.image) alike
  draw-same (draw.Background color) alike = use-same (λ tiers. tiers.background)
  draw-same (draw.DabsRound layer x y r g b mode dabs) alike = paint-same layer alike
  draw-same (draw.DabsSquare layer x y r g b mode dabs) alike = paint-same layer alike
  draw-same (draw.MoveRect layer sx sy w h tx ty) alike =
      paint_by-same layer (λ tiers. tiers.move_) alike

  -- the same is permitted in both
  pub permitted-same : (m : Msg) → LetAlike one other user (painted_layer m)
      → permitted one user m ≡ permitted other user m
  permitted-same (msg.Control m) alike = control-same m
  permitted-same (msg.Meta m) alike = meta-same m
  permitted-same (msg.Part command) alike = operator-same
  permitted-same msg.Point alike = ap not locked-same
  permitted-same (msg.Undo target redo) alike = undo-cases (target == 0 || target == user)
  permitted-same (msg.Draw command) alike = draw-same command alike
  permitted-same (msg.Opaque kind body) alike = refl

pub forbidden_changes_nothing : ForbiddenChangesNoRight
forbidden_changes_nothing before after sender kind user m =
    permitted-same (before ++ filtered sender kind ∷ after) (before ++ after) user
    (ap but_rule (look-filtered user 0 before after sender kind)) m
    (ap (λ l. option_map_or (lets_paint (before ++ after) user) l.rule true)
    (look-filtered user (painted_layer m) before after sender kind))

-- ---- operators

pub operators-stay : OperatorsStay
operators-stay history e user none other =
    listed-push owners user history e
    ∙ ap (λ b. listed_after b (has_joined history user) (owners e.msg) (is_operator history user)
    user) other
    ∙ ap (λ o. listed_after false (has_joined history user) o (is_operator history user) user) none
