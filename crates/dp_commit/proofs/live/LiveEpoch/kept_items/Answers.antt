use Rattle.std.proofs.Common.{◌≡◌, drop, length, ap, ◌∙◌, arith}
use Rattle.dp_commit.specs.Sending.{start_of}
use Rattle.dp_commit.proofs.live.LiveEpoch.kept_items.Goals as goal

pub returns : goal.returns
returns c =
    let live = c.args.self.now.history.items in
    let start = start_of c.args.sending.now.owner c.args.sending.now.place in
    let count : c.len.result ≡ length live =
    omega (arith, c.args.self.now.history.ok.0, c.len.ensures) in
    c.rest_of.ensures ∙ ap (drop c.start-from.result) c.deref.ensures.value
    ∙ ap (λ n. drop n live) (c.start-from.ensures ∙ ap start count)
