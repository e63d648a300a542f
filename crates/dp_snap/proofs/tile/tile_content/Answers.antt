use Rattle.std.proofs.Common.{◌∙◌, ap, sym, subst, length}
use Rattle.std.proofs.lemmas.Bool.{false≢true}
use Rattle.std.proofs.lemmas.List.{length-map}
use Rattle.dp_msg_draw.specs.Payloads.{AreAllEqual}
use Rattle.dp_snap.specs.Tiles.{tile_pixel}
use Rattle.dp_snap.proofs.Tests.{equal_tile}
use Rattle.dp_snap.proofs.tile.tile_content.Goals as goal

pub returns-then-not-are_same-clause-valid : goal.returns-then-not-are_same-clause-valid
returns-then-not-are_same-clause-valid c =
    let tile = c.args.tile.now in
    let is = c.in_ok-tile_pixels.ensures.value in (
      c.in_ok-tile_pixels.ensures.valid,
      ap length is ∙ length-map tile tile_pixel ∙ c.requires.whole,
      λ equal. false≢true (sym c.if-not-are_same.true ∙ c.are_same.ensures
          ∙ equal_tile tile c.index-tile-0.result c.args.cols c.args.rows c.requires.whole
          c.index-tile-0.is c.requires.within.0 c.requires.within.1 (subst AreAllEqual is equal)),
    )
