-- It can't be that an input comes to no end.
use Rattle.std.proofs.Common.{◌≡◌, ℕ, ◌+◌, ◌-◌, ◌≤◌, zero, suc, List, [], ◌∷◌, ◌++◌}
use Rattle.std.proofs.Common.{length, take, drop, refl, sym, ap, ◌∙◌, subst, append_assoc, arith}
use Rattle.std.proofs.Common.{length-append, ⊎_elim}
use Rattle.std.specs.List.{AllByRecursion, flat_map}
use Rattle.std.proofs.lemmas.Bool.{cases_lt}
use Rattle.std.proofs.lemmas.List.{length-drop, nil_from_length, take_all}
use Rattle.dp_frame.specs.Frames.{FrameParts, IsFrame, spelling, Splits}
use Rattle.dp_messages.specs.declared.message.Entry.{Entry}
use Rattle.dp_lines.specs.declared.run_end.RunEnd.{RunEnd}
use Rattle.dp_lines.specs.declared.run_end.RunEnd.TheVariants.{Done, Long, Truncated, BadMessage}
use Rattle.dp_entries.specs.Input.{StandFor, Tells, TellsUpTo, ComesTo}
use Rattle.dp_entries.proofs.Frames.{none_held, some_bytes}

-- it can't be that P neither holds nor not
pub asked : (P : Type 0) → (P → ⊥) → ((P → ⊥) → ⊥) → ⊥
asked P holds fails = fails holds

module _ (M : ℕ → FrameParts → Entry → Type 0) where
  -- after `before` frames the bytes are whole frames that stand for the entries, and then a rest
  record TellsFrom (before : ℕ) (bytes : List ℕ) (entries : List Entry) (rest : List ℕ) : Type 0
    where
      frames : List FrameParts
      stand : StandFor M before frames entries
      splits : Splits bytes frames rest

  -- or a whole one comes that may not stand there
  record StopsFrom (before : ℕ) (bytes : List ℕ) (entries : List Entry) (n : ℕ) : Type 0 where
    frames : List FrameParts
    bad : FrameParts
    more : List ℕ
    each : AllByRecursion IsFrame frames
    stand : StandFor M before frames entries
    fits : IsFrame bad
    nothing : (entry : Entry) → M (before + length frames) bad entry → ⊥
    whole : bytes ≡ flat_map spelling frames ++ (spelling bad ++ more)
    place : n ≡ length (flat_map spelling frames)

  -- the bytes begin with a frame
  record BeginsFrame (bytes : List ℕ) : Type 0 where
    frame : FrameParts
    more : List ℕ
    fits : IsFrame frame
    whole : bytes ≡ spelling frame ++ more

  -- one more frame in front
  tells_more : (k : ℕ) (bytes : List ℕ) (b : BeginsFrame bytes) (e : Entry) (es : List Entry)
      (rest : List ℕ) → M k b.frame e → TellsFrom (k + 1) b.more es rest
      → TellsFrom k bytes (e ∷ es) rest
  tells_more k bytes b e es rest stands t = record {
    frames = b.frame ∷ t.frames;
    stand = (stands, t.stand);
    splits = record {
      whole =
          b.whole ∙ ap (λ (xs : List ℕ). spelling b.frame ++ xs) t.splits.whole
          ∙ sym (append_assoc (spelling b.frame) (flat_map spelling t.frames) rest);
      each = (b.fits, t.splits.each);
      partial = t.splits.partial;
    };
  }

  stops_more : (k : ℕ) (bytes : List ℕ) (b : BeginsFrame bytes) (e : Entry) (es : List Entry)
      (n : ℕ) → M k b.frame e → StopsFrom (k + 1) b.more es n
      → StopsFrom k bytes (e ∷ es) (length (spelling b.frame) + n)
  stops_more k bytes b e es n stands s =
      let after : List ℕ = spelling s.bad ++ s.more in
      let place : k + length (b.frame ∷ s.frames) ≡ (k + 1) + length s.frames = omega arith in
      record {
        frames = b.frame ∷ s.frames;
        bad = s.bad;
        more = s.more;
        each = (b.fits, s.each);
        stand = (stands, s.stand);
        fits = s.fits;
        nothing = λ entry h. s.nothing entry (subst (λ (i : ℕ). M i s.bad entry) place h);
        whole =
            b.whole ∙ ap (λ (xs : List ℕ). spelling b.frame ++ xs) s.whole
            ∙ sym (append_assoc (spelling b.frame) (flat_map spelling s.frames) after);
        place =
            ap (λ (i : ℕ). length (spelling b.frame) + i) s.place
            ∙ sym (length-append (spelling b.frame) (flat_map spelling s.frames));
      }

  -- the first frame may not stand
  stops_here : (k : ℕ) (bytes : List ℕ) (b : BeginsFrame bytes)
      → ((e : Entry) → M k b.frame e → ⊥) → StopsFrom k bytes [] 0
  stops_here k bytes b none =
      let place : k + 0 ≡ k = omega arith in record {
        frames = [];
        bad = b.frame;
        more = b.more;
        each = tt;
        stand = tt;
        fits = b.fits;
        nothing = λ e h. none e (subst (λ (i : ℕ). M i b.frame e) place h);
        whole = b.whole;
        place = refl;
      }

  -- one of the two it is
  goes : (most k : ℕ) (bytes : List ℕ) → length bytes ≤ most
      → ((es : List Entry) (rest : List ℕ) → TellsFrom k bytes es rest → ⊥)
      → ((es : List Entry) (n : ℕ) → StopsFrom k bytes es n → ⊥) → ⊥
  goes zero k bytes few tells stops =
      let none : bytes ≡ [] = nil_from_length bytes (omega (arith, few)) in
      tells [] bytes (record {
        frames = [];
        stand = tt;
        splits = record { whole = refl; each = tt; partial = none_held bytes none };
      })
  goes (suc most) k bytes few tells stops =
      asked (BeginsFrame bytes)
      (λ b.
      let fewer : length b.more ≤ most = omega (
        arith,
        few,
        ap length b.whole,
        length-append (spelling b.frame) b.more,
        some_bytes b.frame,
      ) in
      asked ((e : Entry) × M k b.frame e)
      (λ s. goes most (k + 1) b.more fewer
      (λ es rest t. tells (s.0 ∷ es) rest (tells_more k bytes b s.0 es rest s.1 t))
      (λ es n t. stops (s.0 ∷ es) (length (spelling b.frame) + n)
      (stops_more k bytes b s.0 es n s.1 t)))
      (λ none. stops [] 0 (stops_here k bytes b (λ e h. none (e, h)))))
      (λ none. tells [] bytes (record {
        frames = [];
        stand = tt;
        splits = record {
          whole = refl;
          each = tt;
          partial = λ f more fits whole.
              none (record { frame = f; more = more; fits = fits; whole = whole });
        };
      }))

  -- what the bytes after the first ones come to
  told : (bytes : List ℕ)
      → ((es : List Entry) (rest : List ℕ) → Tells M bytes es rest → ⊥)
      → ((es : List Entry) (n : ℕ) → TellsUpTo M bytes es n → ⊥) → ⊥
  told bytes tells stops =
      let least : length bytes ≤ length bytes = omega arith in
      goes (length bytes) 0 bytes least
      (λ es rest t. tells es rest (record {
        frames = t.frames;
        stand = t.stand;
        splits = t.splits;
      }))
      (λ es n s. let place : length s.frames ≡ 0 + length s.frames = omega arith in
      stops es n (record {
        frames = s.frames;
        bad = s.bad;
        more = s.more;
        each = s.each;
        stand = s.stand;
        fits = s.fits;
        nothing = λ entry h. s.nothing entry (subst (λ (i : ℕ). M i s.bad entry) place h);
        whole = s.whole;
        place = s.place;
      }))

  pub not_endless : (first limit : ℕ) (input : List ℕ)
      → ((entries : List Entry) (end : RunEnd) → ComesTo M first limit input entries end → ⊥) → ⊥
  not_endless first limit input none =
      told (drop first (take limit input))
      (λ es rest t. ⊎_elim
      (λ long. none es Long (rest, t, long))
      (λ short. within short es rest
      (subst (λ (xs : List ℕ). Tells M (drop first xs) es rest) (take_all limit input short) t))
      (cases_lt limit (length input)))
      (λ es n t. none es (BadMessage (first + n)) (n, t, refl))
    where
      within : length input ≤ limit → (es : List Entry) (rest : List ℕ)
          → Tells M (drop first input) es rest → ⊥
      within short es rest t =
          let n : ℕ = length input - length rest in
          let place : n + length rest ≡ length input = omega (
            arith,
            ap length t.splits.whole,
            length-append (flat_map spelling t.frames) rest,
            length-drop first input,
          ) in
          asked (rest ≡ [])
          (λ e. none es Done
          (subst (λ (xs : List ℕ). Tells M (drop first input) es xs) e t, short))
          (λ some. none es (Truncated n) (rest, t, some, place, short))
