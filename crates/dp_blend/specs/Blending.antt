-- The six ways to blend a source with a destination, and the numbers that name them.
use Rattle.std.specs.Prelude.{ℕ, ◌+◌, ◌-◌, ◌==◌, ◌&&◌, Bool, nat_le, nat_lt, min}
use Rattle.std.specs.Prelude.{if◌then◌else◌}
use Rattle.std.specs.Prelude.{List, [], ◌∷◌, map, Option, Some, None}
use Rattle.dp_blend.specs.Color.{Channels, mul, fade}
use Rattle.dp_blend.specs.declared.modes.Mode.{Mode}
use Rattle.dp_blend.specs.declared.modes.Mode.TheVariants.{Erase, Normal, Multiply}
use Rattle.dp_blend.specs.declared.modes.Mode.TheVariants.{Add, Recolor, Replace}

-- the number that names a mode
abbrev pub number_of : Mode → ℕ
number_of Erase = 0
number_of Normal = 1
number_of Multiply = 2
number_of Add = 9
number_of Recolor = 10
number_of Replace = 255

-- the mode that a number names, if any
abbrev pub mode_numbered : ℕ → Option Mode
mode_numbered n =
    if n == 0 then Some Erase
    else if n == 1 then Some Normal
    else if n == 2 then Some Multiply
    else if n == 9 then Some Add
    else if n == 10 then Some Recolor
    else if n == 255 then Some Replace
    else None

-- the alpha of a source over a destination
abbrev pub over : ℕ → ℕ → ℕ
over sa da = sa + mul da (32768 - sa)

-- the channel after blending, of the source's channel and alpha and the destination's
abbrev pub channel_blended : Mode → ℕ → ℕ → ℕ → ℕ → ℕ
channel_blended Erase sc sa dc da = mul dc (32768 - sa)
channel_blended Normal sc sa dc da = sc + mul dc (32768 - sa)
channel_blended Multiply sc sa dc da = mul sc dc + mul sc (32768 - da) + mul dc (32768 - sa)
channel_blended Add sc sa dc da = min (sc + dc) (over sa da)
channel_blended Recolor sc sa dc da = mul sc da + mul dc (32768 - sa)
channel_blended Replace sc sa dc da = sc

-- the alpha after blending, of the source's alpha and the destination's alpha
abbrev pub alpha_blended : Mode → ℕ → ℕ → ℕ
alpha_blended Erase sa da = mul da (32768 - sa)
alpha_blended Normal sa da = over sa da
alpha_blended Multiply sa da = over sa da
alpha_blended Add sa da = over sa da
alpha_blended Recolor sa da = da
alpha_blended Replace sa da = sa

-- the colour after blending the source s with the destination d
abbrev pub blend : Mode → Channels → Channels → Channels
blend mode s d =
    record {
      r = channel_blended mode s.r s.a d.r d.a;
      g = channel_blended mode s.g s.a d.g d.a;
      b = channel_blended mode s.b s.a d.b d.a;
      a = alpha_blended mode s.a d.a;
    }

-- the pixel d after the source through a mask: if the mask is 0 it stays, else the faded source
-- is blended with it
abbrev pub masked : Mode → Channels → ℕ → Channels → Channels
masked mode src m d = if m == 0 then d else blend mode (fade src m) d

-- the row after the source through a mask, place by place; past the end of the mask the row stays
abbrev pub row_blended : Mode → Channels → List ℕ → List Channels → List Channels
row_blended mode src [] row = row
row_blended mode src (m ∷ mask) [] = []
row_blended mode src (m ∷ mask) (d ∷ row) = masked mode src m d ∷ row_blended mode src mask row

-- the row after the source, place by place
abbrev pub row_filled : Mode → Channels → List Channels → List Channels
row_filled mode src row = map (blend mode src) row

-- the row after the faded sources, place by place; past the end of the sources the row stays
abbrev pub row_merged : Mode → ℕ → List Channels → List Channels → List Channels
row_merged mode by [] row = row
row_merged mode by (s ∷ sources) [] = []
row_merged mode by (s ∷ sources) (d ∷ row) =
    blend mode (fade s by) d ∷ row_merged mode by sources row

-- a column is from one on before another
abbrev pub is_between : ℕ → ℕ → ℕ → Bool
is_between left right x = nat_le left x && nat_lt x right
