-- Rows that are read in pages.
use Rattle.std.proofs.Common.{◌≡◌, ℕ, zero, suc, ◌+◌, ◌<◌, true, List, [], ◌∷◌, ◌++◌, length}
use Rattle.std.proofs.Common.{take, drop, Option, None, Some, IfSome, Ok, Err, nat_lt, nat_le}
use Rattle.std.proofs.Common.{get_or, length-append, append_assoc, append-nil}
use Rattle.std.proofs.Common.{refl, sym, ap, subst, ◌∙◌, arith}
use Rattle.std.specs.Prelude.{slice_get}
use Rattle.std.proofs.Math.Seq.{take-add, take-suc, take-length}
use Rattle.std.proofs.lemmas.List.{take-take, length-take}
use Rattle.std.proofs.lemmas.Option.{slice_get_within}
use Rattle.std.proofs.lemmas.Bool.{and_parts, ltb-true}
use Rattle.dp_keeper.specs.declared.row.Row.{Row}
use Rattle.dp_keeper.specs.Store.{IsPage}
use Rattle.dp_epochs.specs.declared.event.Event.{Event}
use Rattle.dp_epochs.specs.Rows.{row_of, row_bytes, event_limit, byte_limit}
use Rattle.dp_epochs.specs.Resumed.{MayStand, MayNotStand, StandAfter, AreRowsOf, IsFirstBad}
use Rattle.dp_tables.specs.SessionLog.{SessionLog}
use Rattle.dp_session.specs.declared.resume.ResumeFault.{ResumeFault}
use Rattle.dp_session.specs.declared.resume.ResumeFault.TheVariants.{StoreFault, BadRow, Memory}
use Rattle.dp_session.specs.Resuming.{IsBad, IsBadAfter, IsBadOf, ReadsRow}
use Rattle.dp_session.specs.Resuming.{ReadsPage, HasFirst, ReadsNext}

-- rows of some events go on
abbrev pub RowsGoOn : Type 0
RowsGoOn =
    (before : List Event) (rows more : List Row) (first next : List Event)
    → StandAfter before rows first → StandAfter (before ++ first) more next
    → StandAfter before (rows ++ more) (first ++ next)

stand-length : (before : List Event) (rows : List Row) (events : List Event)
    → StandAfter before rows events → length rows ≡ length events
stand-length before [] [] stand = refl
stand-length before [] (e ∷ events) stand = absurd stand
stand-length before (row ∷ rows) [] stand = absurd stand
stand-length before (row ∷ rows) (e ∷ events) stand =
    ap suc (stand-length (before ++ e ∷ []) rows events stand.1)

-- ---- places

get-drop : (n : ℕ) (rows : List Row) (i : ℕ) → slice_get (drop n rows) i ≡ slice_get rows (n + i)
get-drop zero rows i = ap (slice_get rows) (omega arith)
get-drop (suc n) [] i = refl
get-drop (suc n) (row ∷ rows) i =
    get-drop n rows i
    ∙ ap (slice_get (row ∷ rows)) (let same : suc (n + i) ≡ suc n + i = omega arith in same)

get-take : (n : ℕ) (rows : List Row) (i : ℕ) (row : Row) → slice_get (take n rows) i ≡ Some row
    → slice_get rows i ≡ Some row
get-take zero rows i row at = absurd (cc)
get-take (suc n) [] i row at = at
get-take (suc n) (other ∷ rows) zero row at = at
get-take (suc n) (other ∷ rows) (suc i) row at = get-take n rows i row at

-- ---- one row

-- no row was read
pub page-none : (old : SessionLog) (page : List Row) → ReadsPage old (take 0 page) (Ok tt) old
page-none old page = ([], tt, rw append-nil refl)

-- one row more of a page was read
pub page-more : RowsGoOn → (old l new : SessionLog) (page : List Row) (i : ℕ) (row : Row)
    → i < length page → get_or page i row ≡ row
    → ReadsPage old (take i page) (Ok tt) l → ReadsRow l row (Ok tt) new
    → ReadsPage old (take (i + 1) page) (Ok tt) new
page-more on old l new page i row within is read replays =
    let journal : l.journal ≡ old.journal ++ read.0 = ap (λ x. x.journal) read.2 in
    let e = replays.0 in
    let may : MayStand (old.journal ++ read.0) row e =
    subst (λ j. MayStand j row e) journal replays.1 in
    let more : take (i + 1) page ≡ take i page ++ row ∷ [] =
    ap (λ n. take n page) (let same : i + 1 ≡ suc i = omega arith in same)
    ∙ take-suc page i row within ∙ ap (λ r. take i page ++ r ∷ []) is in (
      read.0 ++ e ∷ [],
      subst (λ p. StandAfter old.journal p (read.0 ++ e ∷ [])) (sym more)
          (on old.journal (take i page) (row ∷ []) read.0 (e ∷ []) read.1 (may, tt)),
      rw (replays.2, read.2, append_assoc) refl,
    )

-- the next row of a page wasn't read
pub page-fails : (old l new : SessionLog) (page : List Row) (i : ℕ) (row : Row)
    (why : ResumeFault) → i < length page → slice_get page i ≡ Some row
    → ReadsPage old (take i page) (Ok tt) l → ReadsRow l row (Err why) new
    → ReadsPage old page (Err why) new
page-fails old l new page i row StoreFault within at read fails = fails
page-fails old l new page i row Memory within at read fails = tt
page-fails old l new page i row (BadRow n other) within at read fails =
    let journal : l.journal ≡ old.journal ++ read.0 = ap (λ x. x.journal) read.2 in
    record {
      index = i;
      events = read.0;
      front = read.1;
      at = at ∙ ap Some (sym fails.1);
      place = omega (
        arith,
        fails.0,
        ap length journal,
        length-append old.journal read.0,
        stand-length old.journal (take i page) read.0 read.1,
        length-take i page,
        within,
      );
      bad = subst (λ r. MayNotStand (old.journal ++ read.0) r) (sym fails.1)
          (subst (λ j. MayNotStand j row) journal fails.2);
    }

-- ---- one page

module _ (on : RowsGoOn) (rows page : List Row) (journal : List Event)
    (are : AreRowsOf (take (length journal) rows) journal)
    (page_is : page ≡ take 512 (drop (length journal) rows)) where
  pub rows-more : (events : List Event) → StandAfter journal page events
      → AreRowsOf (take (length (journal ++ events)) rows) (journal ++ events)
  rows-more events stand =
      let n = length journal in
      let rest = drop n rows in
      let whole : take (length page) rest ≡ page =
      ap (λ p. take (length p) rest) page_is
      ∙ sym (take-take (length (take 512 rest)) 512 rest (omega (arith, length-take 512 rest)))
      ∙ take-length (take 512 rest) ∙ sym page_is in
      let count : length (journal ++ events) ≡ n + length page = omega (
        arith,
        length-append journal events,
        stand-length journal page events stand,
      ) in
      let all : take (length (journal ++ events)) rows ≡ take n rows ++ page =
      ap (λ k. take k rows) count ∙ take-add n (length page) rows
      ∙ ap (λ p. take n rows ++ p) whole in
      subst (λ r. AreRowsOf r (journal ++ events)) (sym all)
      (on [] (take n rows) page journal events are stand)

  pub rows-bad : (n : ℕ) (row : Row) → IsBadOf journal page n row → IsFirstBad rows n row
  rows-bad n row b =
      let rest = drop (length journal) rows in
      let within : b.index < length page = slice_get_within page b.index row b.at in
      let front : take b.index page ≡ take b.index rest =
      ap (take b.index) page_is
      ∙ take-take b.index 512 rest
      (omega (arith, within, ap length page_is, length-take 512 rest)) in
      let all : take n rows ≡ take (length journal) rows ++ take b.index page =
      ap (λ k. take k rows) b.place ∙ take-add (length journal) b.index rows
      ∙ ap (λ p. take (length journal) rows ++ p) (sym front) in
      record {
        before = journal ++ b.events;
        front = subst (λ r. AreRowsOf r (journal ++ b.events)) (sym all)
            (on [] (take (length journal) rows) (take b.index page) journal b.events are b.front);
        at = ap (slice_get rows) b.place ∙ sym (get-drop (length journal) rows b.index)
            ∙ get-take 512 rest b.index row
            (subst (λ p. slice_get p b.index ≡ Some row) page_is b.at);
        bad = b.bad;
      }

-- after as many events as are told, a row of a page may not stand
pub bad-after : (journal : List Event) (page : List Row) (n : ℕ) (row : Row)
    → IsBadOf journal page n row → IsBadAfter n row
bad-after journal page n row b = (
  journal ++ b.events,
  omega (
    arith,
    length-append journal b.events,
    stand-length journal (take b.index page) b.events b.front,
    length-take b.index page,
    slice_get_within page b.index row b.at,
    b.place,
  ),
  b.bad,
)

-- a page that isn't empty takes room, of which there was some
pub page-counts : (journal : List Event) (page : List Row) (events : List Event)
    → StandAfter journal page events → 0 < length page
    → (length journal < event_limit) × (length journal < length (journal ++ events))
page-counts journal [] events stand some = absurd (omega arith)
page-counts journal (row ∷ page) [] stand some = absurd stand
page-counts journal (row ∷ page) (e ∷ events) stand some =
    let parts : (nat_lt (length journal) event_limit ≡ true)
    × (nat_le (row_bytes journal + length (row_of e)) byte_limit ≡ true) =
    and_parts _ _ stand.0.room in (
      ltb-true (length journal) event_limit parts.0,
      omega (arith, length-append journal (e ∷ events)),
    )

-- ---- the store

first-rows : RowsGoOn → (known : Option (List Row)) (t : SessionLog) (page : List Row)
    (events : List Event) → HasFirst known t → IsPage known (length t.journal) 512 (Ok page)
    → StandAfter t.journal page events
    → IfSome known (λ rows. AreRowsOf (take (length (t.journal ++ events)) rows)
    (t.journal ++ events))
first-rows on None t page events first is stand = tt
first-rows on (Some rows) t page events first is stand =
    rows-more on rows page t.journal first.rows is events stand

-- rows were read
pub on-more : RowsGoOn → (known : Option (List Row)) (t new : SessionLog) (page : List Row)
    → HasFirst known t → IsPage known (length t.journal) 512 (Ok page) → 0 < length page
    → ReadsPage t page (Ok tt) new → ReadsNext known t (Ok true) new
on-more on known t new page first is some read =
    let journal : new.journal ≡ t.journal ++ read.0 = ap (λ x. x.journal) read.2 in
    let counts = page-counts t.journal page read.0 read.1 some in (
      record {
        rows = subst (λ j. IfSome known (λ rows. AreRowsOf (take (length j) rows) j)) (sym journal)
            (first-rows on known t page read.0 first is read.1);
        shut = ap (λ x. x.shut) read.2 ∙ first.shut;
        quiet = ap (λ x. x.quiet) read.2 ∙ first.quiet;
      },
      counts.0,
      omega (arith, counts.1, ap length journal),
    )

first-bad : RowsGoOn → (known : Option (List Row)) (t : SessionLog) (page : List Row) (n : ℕ)
    (row : Row) → HasFirst known t → IsPage known (length t.journal) 512 (Ok page)
    → IsBadOf t.journal page n row → IfSome known (λ rows. IsFirstBad rows n row)
first-bad on None t page n row first is bad = tt
first-bad on (Some rows) t page n row first is bad =
    rows-bad on rows page t.journal first.rows is n row bad

-- a row of the page may not stand, or memory ran out
pub on-bad : RowsGoOn → (known : Option (List Row)) (t new : SessionLog) (page : List Row)
    (why : ResumeFault) → HasFirst known t → IsPage known (length t.journal) 512 (Ok page)
    → ReadsPage t page (Err why) new → IsBad known why
on-bad on known t new page StoreFault first is read = tt
on-bad on known t new page Memory first is read = tt
on-bad on known t new page (BadRow n row) first is read =
    (bad-after t.journal page n row read, first-bad on known t page n row first is read)
