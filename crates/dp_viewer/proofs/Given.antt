-- What a run that no fault ended gives.
use Rattle.std.proofs.Common.{ℕ, List, [], sym, ◌∙◌}
use Rattle.std.specs.Prelude.{Option, Some, None}
use Rattle.std.proofs.lemmas.List.{append-nil}
use Rattle.std.specs.Io.KnownBytes.{Appends, Keeps}
use Rattle.dp_messages.specs.declared.message.Entry.{Entry}
use Rattle.dp_lines.specs.declared.run_end.RunEnd.{RunEnd}
use Rattle.dp_lines.specs.declared.run_end.RunEnd.TheVariants.{Done, ReadFault, WriteFault, Memory}
use Rattle.dp_lines.specs.declared.run_end.RunEnd.TheVariants.{Long, Truncated, BadMessage}
use Rattle.dp_lines.specs.declared.run_end.RunEnd.TheVariants.{BadHeader}
use Rattle.dp_viewer.specs.Pictures.{PictureLeaves, picture_text}
use Rattle.dp_viewer.specs.Ways.{Way}

-- what stays grows by nothing
pub appends_nothing : (old new : Option (List ℕ)) → Keeps old new → Appends old new []
appends_nothing None new keeps = tt
appends_nothing (Some xs) None keeps = absurd keeps
appends_nothing (Some xs) (Some ys) keeps = keeps ∙ sym (append-nil xs)

-- If the end is none of a fault (P says so), what the output grew by is the picture of what the
-- input comes to.
pub whole_picture : (P : RunEnd → Type 0) → (P ReadFault → ⊥) → (P WriteFault → ⊥) → (P Memory → ⊥)
    → (way : Way) (bytes : List ℕ) (left old new : Option (List ℕ)) (end : RunEnd)
    → PictureLeaves way (Some bytes) left old new end → P end
    → (entries : List Entry) × way.comes bytes entries end
    × Appends old new (picture_text way entries end)
whole_picture P read write memory way bytes left old new Done h p = h.1
whole_picture P read write memory way bytes left old new (Truncated n) h p = h.1
whole_picture P read write memory way bytes left old new ReadFault h p = absurd (read p)
whole_picture P read write memory way bytes left old new WriteFault h p = absurd (write p)
whole_picture P read write memory way bytes left old new Memory h p = absurd (memory p)
whole_picture P read write memory way bytes left old new Long h p =
    (h.1.0.0, h.1.0.1, appends_nothing old new h.0)
whole_picture P read write memory way bytes left old new (BadMessage n) h p =
    (h.1.0.0, h.1.0.1, appends_nothing old new h.0)
whole_picture P read write memory way bytes left old new BadHeader h p =
    (h.2.0.0, h.2.0.1, appends_nothing old new h.1)
whole_picture P read write memory way bytes left old new _ h p = absurd h
