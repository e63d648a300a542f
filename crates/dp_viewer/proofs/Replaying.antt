-- What a run leaves on the output.
use Rattle.std.proofs.Common.{◌≡◌, ℕ, List, refl, sym, subst, inl, inr}
use Rattle.std.specs.Prelude.{Option, Some, None, IfSome}
use Rattle.std.specs.Io.KnownBytes.{Appends, IsAtEnd, Keeps}
use Rattle.dp_io.specs.Streams.{GrowsByPrefix}
use Rattle.dp_messages.specs.declared.message.Entry.{Entry}
use Rattle.dp_msg_draw.specs.declared.draw.Draw.{Draw}
use Rattle.dp_plain.specs.Board.{Board}
use Rattle.dp_replay.specs.Replay.{shown}
use Rattle.dp_plain.specs.Picture.{p6}
use Rattle.dp_lines.specs.declared.run_end.RunEnd.{RunEnd}
use Rattle.dp_lines.specs.declared.run_end.RunEnd.TheVariants.{Done, BadLine, ReadFault, WriteFault}
use Rattle.dp_lines.specs.declared.run_end.RunEnd.TheVariants.{LinkFault, Memory, Long, Truncated}
use Rattle.dp_lines.specs.declared.run_end.RunEnd.TheVariants.{BadMessage, Closed, BadHeader}
use Rattle.dp_lines.specs.RunEnds.{FaultMatchesEnd}
use Rattle.dp_trailing.specs.Trailing.{Trailing}
use Rattle.dp_viewer.specs.Ways.{Way}
use Rattle.dp_viewer.specs.Reading.{EndsReading, FaultMatchesWay, ReadsToEnd, TrailsShown}
use Rattle.dp_viewer.specs.Reading.{WritesShown}
use Rattle.dp_viewer.specs.Pictures.{PictureLeaves, ShowsPart}

-- what is written for each history that the board trails
abbrev ForTrailed : Trailing Board Draw → (List ℕ → Type 0) → Type 0
ForTrailed board P = (entries : List Entry) → TrailsShown board entries → P (p6 (shown entries))

-- the picture is written whole
whole_left : (way : Way) (told left old new : Option (List ℕ)) (board : Trailing Board Draw)
    (end : RunEnd) → IfSome told (λ input. EndsReading way input left board end)
    → ReadsToEnd end → IsAtEnd left → ForTrailed board (Appends old new)
    → PictureLeaves way told left old new end
whole_left way None left old new board Done h r at a = (at, tt)
whole_left way (Some input) left old new board Done (all, comes, trails) r at a =
    (at, (all, comes, a (way.shows all) trails))
whole_left way None left old new board (Truncated n) h r at a = (at, tt)
whole_left way (Some input) left old new board (Truncated n) (all, comes, trails) r at a =
    (at, (all, comes, a (way.shows all) trails))
whole_left way told left old new board _ h r at a = absurd r

-- a part of the picture is written
part_left : (way : Way) (told left old new : Option (List ℕ)) (board : Trailing Board Draw)
    (end : RunEnd) → IfSome told (λ input. EndsReading way input left board end)
    → ReadsToEnd end → ForTrailed board (GrowsByPrefix old new) → ShowsPart way told old new
part_left way None left old new board end h r p = tt
part_left way (Some input) left old new board Done (all, comes, trails) r p =
    (all, Done, comes, p (way.shows all) trails)
part_left way (Some input) left old new board (Truncated n) (all, comes, trails) r p =
    (all, Truncated n, comes, p (way.shows all) trails)
part_left way (Some input) left old new board _ h r p = absurd r

pub shown_leaves : (way : Way) (told left old new : Option (List ℕ)) (before now : ℕ)
    (board : Trailing Board Draw) (end result : RunEnd)
    → IfSome told (λ input. EndsReading way input left board end) → ReadsToEnd end → IsAtEnd left
    → WritesShown old new before now board end result → PictureLeaves way told left old new result
shown_leaves way told left old new before now board end result h r at (inl (e, appends, kept)) =
    subst (λ (x : RunEnd). PictureLeaves way told left old new x) (sym e)
    (whole_left way told left old new board end h r at appends)
shown_leaves way told left old new before now board end result h r at
    (inr (inl (e, part, rose))) =
    subst (λ (x : RunEnd). PictureLeaves way told left old new x) (sym e)
    (at, part_left way told left old new board end h r part)
shown_leaves way told left old new before now board end result h r at
    (inr (inr (e, keeps, kept))) =
    subst (λ (x : RunEnd). PictureLeaves way told left old new x) (sym e) keeps

-- what is held stays
keeps_same : (out : Option (List ℕ)) → Keeps out out
keeps_same None = tt
keeps_same (Some xs) = refl

-- nothing is written if the input isn't read to its end
pub nothing_shown : (way : Way) (told left out : Option (List ℕ)) (before now : ℕ)
    (board : Trailing Board Draw) (end : RunEnd)
    → IfSome told (λ input. EndsReading way input left board end)
    → FaultMatchesWay way before now end → (ReadsToEnd end → ⊥)
    → PictureLeaves way told left out out end
nothing_shown way told left out before now board Done h b r = absurd (r tt)
nothing_shown way told left out before now board (Truncated n) h b r = absurd (r tt)
nothing_shown way told left out before now board ReadFault h b r = (keeps_same out, h)
nothing_shown way told left out before now board Memory h b r = keeps_same out
nothing_shown way told left out before now board Long h b r = (keeps_same out, h)
nothing_shown way told left out before now board (BadMessage n) h b r = (keeps_same out, h)
nothing_shown way told left out before now board BadHeader h b r = (b.0, keeps_same out, h)
nothing_shown way told left out before now board (BadLine n) h b r = absurd b
nothing_shown way told left out before now board WriteFault h b r = absurd b
nothing_shown way told left out before now board LinkFault h b r = absurd b
nothing_shown way told left out before now board Closed h b r = absurd b

-- reading to the end raised no count
pub kept_to_end : (way : Way) (before now : ℕ) (end : RunEnd) → FaultMatchesWay way before now end
    → ReadsToEnd end
    → now ≡ before
kept_to_end way before now Done b r = b
kept_to_end way before now (Truncated n) b r = b
kept_to_end way before now _ b r = absurd r

-- an end that all is written at blames nothing
end_fault : (input input_now output output_now : ℕ) (end : RunEnd) → ReadsToEnd end
    → input_now ≡ input → output_now ≡ output →
    FaultMatchesEnd input input_now output output_now end
end_fault input input_now output output_now Done r i o = (i, o)
end_fault input input_now output output_now (Truncated n) r i o = (i, o)
end_fault input input_now output output_now _ r i o = absurd r

pub shown_fault : (way : Way) (old new : Option (List ℕ)) (input input_now output output_now : ℕ)
    (board : Trailing Board Draw) (end result : RunEnd) →
    FaultMatchesWay way input input_now end → ReadsToEnd end → WritesShown old new output output_now
    board end result →
    FaultMatchesEnd input input_now output output_now result
shown_fault way old new input input_now output output_now board end result b r
    (inl (e, appends, kept)) =
    subst (λ (x : RunEnd). FaultMatchesEnd input input_now output output_now x) (sym e)
    (end_fault input input_now output output_now end r (kept_to_end way input input_now end b r)
    kept)
shown_fault way old new input input_now output output_now board end result b r
    (inr (inl (e, part, rose))) =
    subst (λ (x : RunEnd). FaultMatchesEnd input input_now output output_now x) (sym e)
    (kept_to_end way input input_now end b r, rose)
shown_fault way old new input input_now output output_now board end result b r
    (inr (inr (e, keeps, kept))) =
    subst (λ (x : RunEnd). FaultMatchesEnd input input_now output output_now x) (sym e)
    (kept_to_end way input input_now end b r, kept)
