use Rattle.std.proofs.Common.{◌≡◌, ◌∙◌, ◌++◌, ◌∷◌, [], ap, arith, length, sym}
use Rattle.std.proofs.lemmas.Result.{on_err_weaker, on_ok_weaker}
use Rattle.dp_paint.specs.Layers.{LayerOf, NamesThese}
use Rattle.dp_paint.proofs.Layers.{either}
use Rattle.dp_paint.proofs.Named.{kept_layer, kept_names, pushed_layer, pushed_names}
use Rattle.dp_paint.proofs.layer.DeferredGrid.wait_by_number.Goals as goal

pub invariant_of-self-2 : goal.invariant_of-self-2
invariant_of-self-2 g c =
    let inside = c.self.inside in
    let before = inside.images.items in
    let all = c.push_copy.new.commands.items in
    let op = c.args.command.now in
    let is_of = c.self.invariant.0 in
    let names = c.self.invariant.3 in
    let is_all : all ≡ before ++ op ∷ [] = c.in_ok-push_copy.ensures.added in
    let is_number : c.len-number.result ≡ length before =
    omega (arith, inside.images.ok, c.len-number.ensures) in
    let old = inside.lists in
    let new = c.file.new.lists in (
      is_of,
      c.file.ensures.first ∙ c.self.invariant.1,
      c.file.ensures.counts,
      either c.file.result (NamesThese inside.width inside.height all new)
          (on_ok_weaker c.file.result
          (λ filed. pushed_names c.args.self.now inside.width inside.height before all op
          c.len-number.result c.args.area old new is_of.wide is_of.high is_all is_number names
          filed)
          c.file.ensures.filed)
          (on_err_weaker c.file.result
          (λ same. kept_names c.args.self.now inside.width inside.height before all op old new
          is_of.wide is_of.high is_all names same)
          c.file.ensures.same),
    )

pub returns-clause-ok : goal.returns-clause-ok
returns-clause-ok g c =
    let inside = c.self.inside in
    let before = inside.images.items in
    let all = c.push_copy.new.commands.items in
    let op = c.args.command.now in
    let view = c.self.view_is ∙ c.in_ok-make_room.ensures.same in
    let wide = ap (λ (l : LayerOf). l.width) view in
    let high = ap (λ (l : LayerOf). l.height) view in
    let is_of = c.self.invariant.0 in
    let is_all : all ≡ before ++ op ∷ [] = c.in_ok-push_copy.ensures.added in
    let is_number : c.len-number.result ≡ length before =
    omega (arith, inside.images.ok, c.len-number.ensures) in
    on_ok_weaker c.file.result
    (λ filed.
    pushed_layer c.args.self.now inside.width inside.height before all op c.len-number.result
    c.args.area inside.lists c.file.new.lists is_of.wide is_of.high is_all is_number
    c.self.invariant.3 filed inside.grid c.pixels_stay_outside_the_foot.ensures
    c.requires.command
    (λ x y in_x in_y f. c.requires.all x y (rw (sym wide) in_x) (rw (sym high) in_y) f) view)
    c.file.ensures.filed

pub returns-clause-err : goal.returns-clause-err
returns-clause-err g c =
    let inside = c.self.inside in
    let before = inside.images.items in
    let all = c.push_copy.new.commands.items in
    let op = c.args.command.now in
    let is_of = c.self.invariant.0 in
    let is_all : all ≡ before ++ op ∷ [] = c.in_ok-push_copy.ensures.added in
    on_err_weaker c.file.result
    (λ same.
    kept_layer c.args.self.now inside.width inside.height before all op inside.lists
    c.file.new.lists is_of.wide is_of.high is_all c.self.invariant.3 same inside.grid
    (c.self.view_is ∙ c.in_ok-make_room.ensures.same))
    c.file.ensures.same
