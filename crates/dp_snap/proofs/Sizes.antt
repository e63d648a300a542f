-- The lengths of payloads.
use Rattle.std.proofs.Common.{◌≡◌, ◌≤◌, ◌*◌, List, [], ◌∷◌, length, arith, refl}
use Rattle.std.specs.Prelude.{All, Result, OnOk, OnErr, ◌++◌}
use Rattle.std.specs.List.{flat_map}
use Rattle.std.proofs.Common.{Ok, Err, subst, sym}
use Rattle.std.proofs.lemmas.List.Elements.{All-push}
use Rattle.dp_msg_draw.specs.declared.draw.TileContent.{TileContent}
use Rattle.dp_msg_draw.specs.declared.draw.TileContent.TheVariants.{Solid, Pixels}
use Rattle.dp_msg_draw.specs.declared.lists.TilePixel.{TilePixel}
use Rattle.dp_msg_draw.specs.Payloads.{IsContent, content_bytes, pixel_bytes}

length-pixels : (ps : List TilePixel) → length (flat_map pixel_bytes ps) ≡ 8 * length ps
length-pixels [] = refl
length-pixels (p ∷ ps) = omega (arith, length-pixels ps)

-- what a tile is filled with fits in a payload
pub short_content : (content : TileContent) → IsContent content
    → length (content_bytes content) ≤ 32769
short_content (Solid p) valid = omega arith
short_content (Pixels ps) valid = omega (arith, length-pixels ps, valid.1)

-- a list in which each item meets P, after one more that does, or none
pub pushed : {X E : Type 0} (P : X → Type 0) (old new : List X) (x : X) (r : Result (Unit {0}) E)
    → OnOk r (new ≡ old ++ x ∷ []) → OnErr r (new ≡ old) → All P old → P x → All P new
pushed P old new x (Ok y) ok err each more = subst (All P) (sym ok) (All-push P old x each more)
pushed P old new x (Err e) ok err each more = subst (All P) (sym err) each
