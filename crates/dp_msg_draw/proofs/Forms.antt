-- The parts that a message of each kind is made of: no other message has the kind, and the parts'
-- bytes are its payload.
use Rattle.std.proofs.Common.{◌≡◌, ℕ, ◌==◌, ◌*◌, ◌^◌, ◌<◌, ◌≤◌, false, List, ◌∷◌, ◌++◌}
use Rattle.std.proofs.Common.{length, drop, All, refl, sym, ap, subst, ◌∙◌, arith, Result, Ok, Err}
use Rattle.std.proofs.Common.{◌⊎◌, inl, inr}
use Rattle.std.proofs.lemmas.Bool.{false≢true, eq-eqb}
use Rattle.std.specs.List.{flat_map}
use Rattle.dp_fields.specs.declared.error.PayloadError.{PayloadError}
use Rattle.dp_fields.specs.declared.error.PayloadError.TheVariants.{Malformed, Memory}
use Rattle.dp_msg_draw.specs.declared.lists.TilePixel.{TilePixel}
use Rattle.dp_msg_draw.specs.declared.draw.TileContent.{TileContent}
use Rattle.dp_msg_draw.specs.declared.draw.TileContent.TheVariants.{Solid, Pixels}
use Rattle.dp_msg_draw.specs.declared.draw.Draw.{Draw}
use Rattle.dp_msg_draw.specs.declared.draw.Draw.TheVariants.{CanvasResize, LayerCreate, LayerAttr}
use Rattle.dp_msg_draw.specs.declared.draw.Draw.TheVariants.{LayerTitle, LayerMove, LayerDelete}
use Rattle.dp_msg_draw.specs.declared.draw.Draw.TheVariants.{PutImage, FillRect, PutTile}
use Rattle.dp_msg_draw.specs.declared.draw.Draw.TheVariants.{Background, DabsRound, DabsSquare}
use Rattle.dp_msg_draw.specs.declared.draw.Draw.TheVariants.{MoveRect}
use Rattle.dp_msg_draw.specs.declared.mode.ModeNumber.{ModeNumber}
use Rattle.dp_msg_draw.specs.declared.tails.Image.{Image}
use Rattle.dp_fields.specs.Fields.{four_bytes}
use Rattle.dp_msg_draw.specs.Limits.{IsTitle}
use Rattle.dp_msg_draw.specs.Payloads.{draw_kind, draw_payload, DrawHasSpelling, SpellsDraw}
use Rattle.dp_msg_draw.specs.Payloads.{dab_bytes, AreDabs, pixel_bytes, IsTile}
use Rattle.dp_msg_draw.specs.Payloads.{content_bytes, IsContent, IsImage}
use Rattle.dp_fields.specs.FieldLaws.{byte_field, two_field, four_field, signed_field}
use Rattle.dp_fields.specs.FieldLaws.{flag_field, pair_field}
use Rattle.dp_msg_draw.specs.FieldLaws.{mode_field, dab_field, pixel_field}
use Rattle.dp_fields.specs.Reading.{Answers, Begins, Spells}
use Rattle.dp_fields.specs.Wholes.{IsWhole, whole, both, whole_if, same_error}
use Rattle.dp_fields.specs.Sequences.{items}
use Rattle.dp_msg_draw.proofs.Lengths.{length_of_colors, length_of_dabs, length_of_pixels}

-- A message of this kind that has a spelling is made of valid parts, whose bytes are its payload.
pub record Form (kind : ℕ) {X : Type 0} {spelling : X → List ℕ} {valid : X → Type 0}
    (parts : IsWhole spelling valid) (make : X → Draw) : Type 0 where
  pub of : (m : Draw) → kind ≡ draw_kind m → DrawHasSpelling m
      → (x : X) × (m ≡ make x) × (draw_payload m ≡ spelling x) × valid x

-- no message has two kinds
other : {P : Type 0} {j k : ℕ} → j ≡ k → (j == k) ≡ false → P
other {j = j} {k = k} e differ = absurd (false≢true (sym differ ∙ eq-eqb j k e))

-- if no parts are read, no message is
pub refused : {k kind : ℕ} {X : Type 0} {spelling : X → List ℕ} {valid : X → Type 0}
    {parts : IsWhole spelling valid} {make : X → Draw} {bytes : List ℕ}
    → k ≡ kind → Form kind parts make → ((x : X) → Spells spelling valid bytes x → ⊥) → (m : Draw)
    → SpellsDraw k bytes m → ⊥
refused is form none m s =
    let f = form.of m (sym is ∙ s.kind) s.spelled in
    none f.0 (record { bytes_are = s.payload ∙ f.2; is_valid = f.3 })

-- no message has the payload, if memory may have run out
pub fails : {k kind : ℕ} {X : Type 0} {spelling : X → List ℕ} {valid : X → Type 0}
    {parts : IsWhole spelling valid} {make : X → Draw} (bytes : List ℕ)
    → k ≡ kind → Form kind parts make → ((x : X) → valid x → SpellsDraw kind (spelling x) (make x))
    → (e : PayloadError) → Answers (Spells spelling valid bytes) (Err e)
    → Answers (SpellsDraw k bytes) (Err e)
fails bytes is form made Malformed none = refused is form none
fails {make = make} bytes is form made Memory there =
    let s = made there.0 there.1.is_valid in (
      make there.0,
      record {
        kind = is ∙ s.kind;
        payload = there.1.bytes_are
            ∙ s.payload;
        spelled = s.spelled;
      },
    )

-- one payload of this kind is made of the same parts
pub same : {kind : ℕ} {X : Type 0} {spelling : X → List ℕ} {valid : X → Type 0}
    {parts : IsWhole spelling valid} {make : X → Draw} {bytes : List ℕ}
    → Form kind parts make → (m n : Draw) → SpellsDraw kind bytes m → SpellsDraw kind bytes n
    → m ≡ n
same {parts = parts} {make = make} form m n s t =
    let f = form.of m s.kind s.spelled in
    let g = form.of n t.kind t.spelled in
    f.1 ∙ ap make (parts.one f.0 g.0 f.3 g.3 (sym f.2 ∙ sym s.payload ∙ t.payload ∙ g.2)) ∙ sym g.1

-- ---- what runs to the payload's end

pub title_whole : IsWhole (λ (title : List ℕ). title) IsTitle
title_whole = record { one = λ x y v w e. e }

pub dabs_whole : IsWhole (flat_map dab_bytes) AreDabs
dabs_whole = whole_if (items dab_field (λ x. omega arith)) (λ dabs are. are.0)

abbrev made_image : ℕ → ℕ → List ℕ → Image
made_image w h colors = record { w = w; h = h; colors = colors }

abbrev IsWholeImage : Image → Type 0
IsWholeImage i = (i.w < 2 ^ 32) × (i.h < 2 ^ 32) × IsImage i.w i.h i.colors

one_image : (x y : Image) → IsWholeImage x → IsWholeImage y
    → four_bytes x.w ++ four_bytes x.h ++ flat_map four_bytes x.colors
    ≡ four_bytes y.w ++ four_bytes y.h ++ flat_map four_bytes y.colors → x ≡ y
one_image x y v w e =
    let colors = both (pair_field four_field four_field) (items four_field (λ c. omega arith)) in
    let parts = colors.one ((x.w, x.h), x.colors) ((y.w, y.h), y.colors) ((v.0, v.1), v.2.0)
    ((w.0, w.1), w.2.0) e in
    ap (λ (p : (ℕ × ℕ) × List ℕ). made_image p.0.0 p.0.1 p.1) parts

pub image_whole : IsWhole (λ (i : Image). four_bytes i.w ++ four_bytes i.h
    ++ flat_map four_bytes i.colors) IsWholeImage
image_whole = record { one = one_image }

-- if as many colours as an image has aren't read, the image isn't
pub image_fails : (w h area : ℕ) {bytes rest : List ℕ} → Begins {X = ℕ × ℕ}
    (λ p. four_bytes p.0 ++ four_bytes p.1) (λ p. (p.0 < 2 ^ 32) × (p.1 < 2 ^ 32)) bytes (w, h) rest
    → 1 ≤ w → 1 ≤ h → area ≡ w * h → area ≤ 16379
    → (e : PayloadError) → Answers (Spells (flat_map four_bytes)
    (λ xs. All (λ n. n < 2 ^ 32) xs × (area ≤ length xs) × (length xs ≤ area)) rest) (Err e)
    → Answers (Spells {X = Image} (λ i. four_bytes i.w ++ four_bytes i.h
    ++ flat_map four_bytes i.colors) IsWholeImage bytes) (Err e)
image_fails w h area {bytes = bytes} {rest = rest} b some_w some_h is most =
    same_error _ _
    (λ i s.
    let v = s.is_valid in
    let sides = (pair_field four_field four_field).one (w, h) (i.w, i.h) rest
    (flat_map four_bytes i.colors) b.is_valid (v.0, v.1) (sym b.bytes_are ∙ s.bytes_are) in
    let ws : w ≡ i.w = ap (λ (p : ℕ × ℕ). p.0) sides.0 in
    let hs : h ≡ i.h = ap (λ (p : ℕ × ℕ). p.1) sides.0 in
    let count : length i.colors ≡ area = v.2.3 ∙ ap (λ (n : ℕ). n * i.h) (sym ws)
    ∙ ap (λ (n : ℕ). w * n) (sym hs) ∙ sym is in
    (i.colors, record { bytes_are = sides.1; is_valid = (v.2.0, omega arith, omega arith) }))
    (λ colors s.
    let v = s.is_valid in
    let count : length colors ≡ area = omega arith in (
      made_image w h colors,
      record {
        bytes_are = b.bytes_are
            ∙ ap (λ (l : List ℕ). four_bytes w ++ four_bytes h ++ l) s.bytes_are;
        is_valid =
            (b.is_valid.0, b.is_valid.1, (v.0, some_w, some_h, count ∙ is, omega arith));
      },
    ))

one_content : (x y : TileContent) → IsContent x → IsContent y → content_bytes x ≡ content_bytes y
    → x ≡ y
one_content (Solid p) (Solid q) v w e = ap Solid ((whole pixel_field).one p q v w (cc))
one_content (Solid p) (Pixels qs) v w e = absurd (cc)
one_content (Pixels ps) (Solid q) v w e = absurd (cc)
one_content (Pixels ps) (Pixels qs) v w e = ap Pixels ((items pixel_field (λ p. omega arith)).one ps
    qs v.0 w.0 (cc))

pub content_whole : IsWhole content_bytes IsContent
content_whole = record { one = one_content }

content_back : {bytes rest : List ℕ} → bytes ≡ 1 ∷ rest → (content : TileContent)
    → Spells content_bytes IsContent bytes content → (pixels : List TilePixel)
    × Spells (flat_map pixel_bytes) IsTile rest pixels
content_back e (Solid p) s = let differ : 1 ∷ _ ≡ content_bytes (Solid p) = sym e
    ∙ s.bytes_are in absurd (cc)
content_back e (Pixels ps) s = (
  ps,
  record {
    bytes_are = ap (drop 1) (sym e ∙ s.bytes_are);
    is_valid
        = s.is_valid;
  },
)

-- if the pixels after form 1 aren't read, the content isn't
pub content_fails : {bytes rest : List ℕ} → bytes ≡ 1 ∷ rest → (e : PayloadError)
    → Answers (Spells (flat_map pixel_bytes) IsTile rest) (Err e)
    → Answers (Spells content_bytes IsContent bytes) (Err e)
content_fails e = same_error _ _ (content_back e) (λ pixels s. (
  Pixels pixels,
  record {
    bytes_are = e ∙ ap (λ (b : List ℕ). 1 ∷ b) s.bytes_are;
    is_valid =
        s.is_valid;
  },
))

-- ---- each kind

abbrev mode_of : ℕ → ModeNumber
mode_of n = record { 0 = n }

pub canvas_resize : Form 129 (whole (pair_field (pair_field signed_field signed_field)
    (pair_field signed_field signed_field))) (λ x. CanvasResize x.0.0 x.0.1 x.1.0 x.1.1)
canvas_resize = record {
  of = elim [
    | CanvasResize top right bottom left ↦ λ e h.
        (((top, right), (bottom, left)), refl, refl, ((h.0, h.1), (h.2, h.3)))
    | _ ↦ λ e h. other e refl
  ];
}

pub layer_create : Form 130 (both (pair_field two_field (pair_field two_field flag_field))
    title_whole)
    (λ x. LayerCreate x.0.0 x.0.1.0 x.0.1.1 x.1)
layer_create = record {
  of = elim [
    | LayerCreate id parent group title ↦ λ e h.
        (((id, (parent, group)), title), refl, refl, ((h.0, (h.1, tt)), h.2))
    | _ ↦ λ e h. other e refl
  ];
}

pub layer_attr : Form 131 (whole (pair_field (pair_field two_field byte_field)
    (pair_field mode_field flag_field))) (λ x. LayerAttr x.0.0 x.0.1 x.1.0.0 x.1.1)
layer_attr = record {
  of = elim [
    | LayerAttr id opacity mode hidden ↦ λ e h.
        (((id, opacity), (mode_of mode, hidden)), refl, refl, ((h.0, h.1), (h.2, tt)))
    | _ ↦ λ e h.
        other e refl
  ];
}

pub layer_title : Form 132 (both two_field title_whole) (λ x. LayerTitle x.0 x.1)
layer_title = record {
  of = elim [
    | LayerTitle id title ↦ λ e h.
        ((id, title), refl, refl, (h.0, h.1))
    | _ ↦ λ e h. other e refl
  ];
}

pub layer_move : Form 133 (whole (pair_field two_field (pair_field two_field two_field)))
    (λ x. LayerMove x.0 x.1.0 x.1.1)
layer_move = record {
  of = elim [
    | LayerMove id parent above ↦ λ e h.
        ((id, (parent, above)), refl, refl, (h.0, (h.1, h.2)))
    | _ ↦ λ e h. other e refl
  ];
}

pub layer_delete : Form 134 (whole two_field) (λ x. LayerDelete x)
layer_delete = record {
  of = elim [
    | LayerDelete id ↦ λ e h. (id, refl, refl, h)
    | _ ↦ λ e h. other e
        refl
  ];
}

pub put_image : Form 136 (both (pair_field (pair_field two_field mode_field)
    (pair_field four_field four_field)) image_whole)
    (λ x. PutImage x.0.0.0 x.0.0.1.0 x.0.1.0 x.0.1.1 x.1.w x.1.h x.1.colors)
put_image = record {
  of = elim [
    | PutImage layer mode x y w h' colors ↦ λ e h. (
      (((layer, mode_of mode), (x, y)), made_image w h' colors),
      refl,
      refl,
      (((h.0, h.1), (h.2, h.3)), (h.4, h.5, h.6)),
    )
    | _ ↦ λ e h. other e refl
  ];
}

pub fill_rect : Form 137 (whole (pair_field (pair_field two_field mode_field)
    (pair_field (pair_field (pair_field four_field four_field) (pair_field four_field four_field))
    four_field))) (λ x. FillRect x.0.0 x.0.1.0 x.1.0.0.0 x.1.0.0.1 x.1.0.1.0 x.1.0.1.1 x.1.1)
fill_rect = record {
  of = elim [
    | FillRect layer mode x y w h' color ↦ λ e h. (
      ((layer, mode_of mode), (((x, y), (w, h')), color)),
      refl,
      refl,
      ((h.0, h.1), (((h.2, h.3), (h.4, h.5)), h.6)),
    )
    | _ ↦ λ e h. other e refl
  ];
}

pub put_tile : Form 146 (both (pair_field (pair_field two_field (pair_field two_field two_field))
    two_field) content_whole) (λ x. PutTile x.0.0.0 x.0.0.1.0 x.0.0.1.1 x.0.1 x.1)
put_tile = record {
  of = elim [
    | PutTile layer col row repeat content ↦ λ e h.
        ((((layer, (col, row)), repeat), content), refl, refl, (((h.0, (h.1, h.2)), h.3), h.4))
    | _ ↦
        λ e h. other e refl
  ];
}

pub background : Form 147 (whole four_field) (λ x. Background x)
background = record {
  of = elim [
    | Background color ↦ λ e h. (color, refl, refl, h)
    | _ ↦ λ e h.
        other e refl
  ];
}

pub dabs_round : Form 149 (both (pair_field
    (pair_field two_field (pair_field signed_field signed_field))
    (pair_field (pair_field byte_field (pair_field byte_field byte_field)) mode_field)) dabs_whole)
    (λ x. DabsRound x.0.0.0 x.0.0.1.0 x.0.0.1.1 x.0.1.0.0 x.0.1.0.1.0 x.0.1.0.1.1 x.0.1.1.0 x.1)
dabs_round = record {
  of = elim [
    | DabsRound layer x y r g b mode dabs ↦ λ e h. (
      (((layer, (x, y)), ((r, (g, b)), mode_of mode)), dabs),
      refl,
      refl,
      (((h.0, (h.1, h.2)), ((h.3, (h.4, h.5)), h.6)), h.7),
    )
    | _ ↦ λ e h. other e refl
  ];
}

pub dabs_square : Form 150 (both (pair_field
    (pair_field two_field (pair_field signed_field signed_field))
    (pair_field (pair_field byte_field (pair_field byte_field byte_field)) mode_field)) dabs_whole)
    (λ x. DabsSquare x.0.0.0 x.0.0.1.0 x.0.0.1.1 x.0.1.0.0 x.0.1.0.1.0 x.0.1.0.1.1 x.0.1.1.0 x.1)
dabs_square = record {
  of = elim [
    | DabsSquare layer x y r g b mode dabs ↦ λ e h. (
      (((layer, (x, y)), ((r, (g, b)), mode_of mode)), dabs),
      refl,
      refl,
      (((h.0, (h.1, h.2)), ((h.3, (h.4, h.5)), h.6)), h.7),
    )
    | _ ↦ λ e h. other e refl
  ];
}

pub move_rect : Form 152 (whole (pair_field two_field (pair_field
    (pair_field (pair_field four_field four_field) (pair_field four_field four_field))
    (pair_field signed_field signed_field)))) (λ x. MoveRect x.0 x.1.0.0.0 x.1.0.0.1 x.1.0.1.0
    x.1.0.1.1 x.1.1.0 x.1.1.1)
move_rect = record {
  of = elim [
    | MoveRect layer sx sy w h' tx ty ↦ λ e h. (
      (layer, (((sx, sy), (w, h')), (tx, ty))),
      refl,
      refl,
      (h.0, (((h.1, h.2), (h.3, h.4)), (h.5, h.6))),
    )
    | _ ↦ λ e h. other e refl
  ];
}

-- ---- the law

at_kind : {j k : ℕ} {bytes : List ℕ} {m : Draw} → j ≡ k → SpellsDraw j bytes m
    → SpellsDraw k bytes m
at_kind {bytes = bytes} {m = m} e s = subst (λ (i : ℕ). SpellsDraw i bytes m) e s

by_form : {kind k : ℕ} {X : Type 0} {spelling : X → List ℕ} {valid : X → Type 0}
    {parts : IsWhole spelling valid} {make : X → Draw} {bytes : List ℕ}
    → Form k parts make → (m n : Draw) → kind ≡ k → SpellsDraw kind bytes m
    → SpellsDraw kind bytes n → m ≡ n
by_form form m n e s t = same form m n (at_kind e s) (at_kind e t)

pub one_draw : (kind : ℕ) (bytes : List ℕ) (m n : Draw) → SpellsDraw kind bytes m
    → SpellsDraw kind bytes n → m ≡ n
one_draw kind bytes (CanvasResize top right bottom left) n s t = by_form canvas_resize _ n s.kind s
    t
one_draw kind bytes (LayerCreate id parent group title) n s t = by_form layer_create _ n s.kind s t
one_draw kind bytes (LayerAttr id opacity mode hidden) n s t = by_form layer_attr _ n s.kind s t
one_draw kind bytes (LayerTitle id title) n s t = by_form layer_title _ n s.kind s t
one_draw kind bytes (LayerMove id parent above) n s t = by_form layer_move _ n s.kind s t
one_draw kind bytes (LayerDelete id) n s t = by_form layer_delete _ n s.kind s t
one_draw kind bytes (PutImage layer mode x y w h colors) n s t = by_form put_image _ n s.kind s t
one_draw kind bytes (FillRect layer mode x y w h color) n s t = by_form fill_rect _ n s.kind s t
one_draw kind bytes (PutTile layer col row repeat content) n s t = by_form put_tile _ n s.kind s t
one_draw kind bytes (Background color) n s t = by_form background _ n s.kind s t
one_draw kind bytes (DabsRound layer x y r g b mode dabs) n s t = by_form dabs_round _ n s.kind s t
one_draw kind bytes (DabsSquare layer x y r g b mode dabs) n s t = by_form dabs_square _ n s.kind s
    t
one_draw kind bytes (MoveRect layer sx sy w h tx ty) n s t = by_form move_rect _ n s.kind s t

-- what has a spelling is no longer than a payload may be
pub short_payload : (m : Draw) → DrawHasSpelling m → length (draw_payload m) ≤ 65535
short_payload (LayerCreate id parent group title) h = let short = h.2.0 in omega arith
short_payload (LayerTitle id title) h = let short = h.1.0 in omega arith
short_payload (PutImage layer mode x y w h' colors) h = let most = h.6.4 in omega
    (arith, length_of_colors colors)
short_payload (PutTile layer col row repeat (Solid p)) h = omega arith
short_payload (PutTile layer col row repeat (Pixels ps)) h = let count = h.4.1 in omega
    (arith, length_of_pixels ps)
short_payload (DabsRound layer x y r g b mode dabs) h = let most = h.7.2 in omega
    (arith, length_of_dabs dabs)
short_payload (DabsSquare layer x y r g b mode dabs) h = let most = h.7.2 in omega
    (arith, length_of_dabs dabs)
short_payload m h = omega arith

-- what is spelled is read, unless memory runs out
pub only : (kind : ℕ) (bytes : List ℕ) (r : Result Draw PayloadError)
    → Answers (SpellsDraw kind bytes) r → (m : Draw) → SpellsDraw kind bytes m
    → (r ≡ Ok m) ⊎ (r ≡ Err Memory)
only kind bytes (Ok n) found m s = inl (ap Ok (one_draw kind bytes n m found s))
only kind bytes (Err Malformed) none m s = absurd (none m s)
only kind bytes (Err Memory) there m s = inr refl
