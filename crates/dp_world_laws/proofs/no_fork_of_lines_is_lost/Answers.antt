use Rattle.dp_world_laws.proofs.no_fork_of_lines_is_lost.Goals as goal

pub returns : goal.returns
returns c = λ lines actions number h.
    c.no_fork_is_lost.ensures actions number
    (record { said = c.lines_say_no_control.ensures lines actions h.asked; replies = h.replies })
