-- Numbers and premultiplied colours. A channel or an alpha is a number from 0 to 32768, which
-- stands for one.
use Rattle.std.specs.Prelude.{ℕ, ◌+◌, ◌*◌, ◌/◌, ◌%◌, ◌≤◌}

-- a premultiplied colour: its channels and its alpha, if 32768 is one
pub record Channels : Type 0 where
  pub r : ℕ
  pub g : ℕ
  pub b : ℕ
  pub a : ℕ

-- the colour is a pixel: no channel is above alpha, and alpha is at most one
pub record IsPixel (p : Channels) : Type 0 where
  pub r : p.r ≤ p.a
  pub g : p.g ≤ p.a
  pub b : p.b ≤ p.a
  pub a : p.a ≤ 32768

-- one, as a channel and as an alpha
abbrev pub one : ℕ
one = 32768

-- the pixel that shows nothing
abbrev pub clear : Channels
clear = record { r = 0; g = 0; b = 0; a = 0 }

-- opaque white
abbrev pub white : Channels
white = record { r = one; g = one; b = one; a = one }

-- the product of two numbers of which 32768 is one, rounded down
abbrev pub mul : ℕ → ℕ → ℕ
mul a b = a * b / 32768

-- the channel of a byte, of which 255 is one
abbrev pub from8 : ℕ → ℕ
from8 v = (v * 32768 + 127) / 255

-- the byte nearest to a channel
abbrev pub to8 : ℕ → ℕ
to8 c = (c * 255 + 16384) / 32768

-- the colour with each of the four multiplied by m
abbrev pub fade : Channels → ℕ → Channels
fade p m = record { r = mul p.r m; g = mul p.g m; b = mul p.b m; a = mul p.a m }

-- the premultiplied colour of four bytes: each channel is multiplied by alpha
abbrev pub premultiplied : ℕ → ℕ → ℕ → ℕ → Channels
premultiplied r g b a =
    record {
      r = mul (from8 r) (from8 a);
      g = mul (from8 g) (from8 a);
      b = mul (from8 b) (from8 a);
      a = from8 a;
    }

-- the pixel of an ARGB number: its high byte is alpha, then come red, green and blue
abbrev pub of_argb : ℕ → Channels
of_argb n = premultiplied (n / 65536 % 256) (n / 256 % 256) (n % 256) (n / 16777216)
