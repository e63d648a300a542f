use Rattle.std.proofs.Common.{◌++◌, ◌∷◌, [], ◌∙◌, sym, ap, subst}
use Rattle.dp_frame_log.specs.Frames.{AreFramesOf}
use Rattle.dp_frame_log.proofs.LogLemmas.{sealed-now}
use Rattle.dp_frame_log.proofs.log.FrameLog.seal.Goals as goal

pub returns-in-Ok : goal.returns-in-Ok
returns-in-Ok c =
    sealed-now c.args.self.now
    (record { sealed = c.push_reserved.new.self.items; last = c.replace.new.dest })
    c.in-Ok.frames.value
    (c.push_reserved.ensures.items
    ∙ ap (λ xs. xs ++ c.in-Ok.frames.value ∷ [])
    (c.reserve.ensures.items ∙ ap (λ l. l.sealed) c.self.view_is))
    (c.in-Ok.ensures.ok ∙ c.replace.ensures.value ∙ ap (λ l. l.last) c.self.view_is)
    (subst (λ f. AreFramesOf f []) (sym c.replace.ensures.after) c.with_room-next.ensures)
