-- Reading what is kept of a state.
use Rattle.std.proofs.Common.{◌≡◌, ℕ, ◌-◌, ◌==◌, true, false, if◌then◌else◌, List, Option, Some}
use Rattle.std.proofs.Common.{map, take, drop, length, refl, sym, subst, ap, ◌∙◌, Result, Ok, Err}
use Rattle.std.proofs.Common.{OnOk, arith, is_some}
use Rattle.std.specs.List.{list_any}
use Rattle.std.proofs.lemmas.List.{take-map, drop-map, take_all, length-map}
use Rattle.dp_messages.specs.declared.message.Entry.{Entry}
use Rattle.dp_epochs.specs.declared.connection.Connection.{Connection}
use Rattle.dp_epochs.specs.declared.connection.Ending.{Ending}
use Rattle.dp_epochs.specs.declared.event.Answer.{Answer}
use Rattle.dp_epochs.specs.declared.event.Answer.TheVariants.{Gone}
use Rattle.dp_epochs.specs.declared.event.Event.{Event}
use Rattle.dp_epochs.specs.Pull.{page, pulled_from, pulled_by, pulled_where}
use Rattle.dp_epochs.specs.State.{State, connection_in, connection_of}
use Rattle.dp_history.specs.declared.item.HistoryItem.{HistoryItem}
use Rattle.dp_history.specs.declared.page.Page.{Page}
use Rattle.dp_history.specs.Items.{entry_in}
use Rattle.dp_history.specs.Pages.{AnswersBy, IsPage, IsPageOf}
use Rattle.dp_history.specs.Users.{mark}
use Rattle.dp_commit.specs.declared.connections.Roster.{Roster}
use Rattle.dp_commit.specs.declared.live.LiveEpoch.{LiveEpoch}
use Rattle.dp_commit.specs.declared.pages.Due.{Due}
use Rattle.dp_commit.specs.Marks.{quiet_of}
use Rattle.dp_commit.specs.Pages.{answer_of, AreRead}
use Rattle.dp_commit.proofs.OpenLemmas.{given-out}
use Rattle.dp_commit.proofs.QuietLemmas.{quiet-listed}
use Rattle.dp_epochs.specs.declared.connection.Ending.TheVariants as ending

-- what holds if a result is `Ok` holds for one that is
pub ok-of : {T E : Type 0} (r : Result T E) (x : T) (A : Type 0) → r ≡ Ok x → OnOk r A → A
ok-of (Ok y) x A is on = on
ok-of (Err e) x A is on = cc

-- a page of the entries is that of the history
pub page-is : (journal : List Event) (live : List HistoryItem) (end at most : ℕ)
    → map (entry_in journal) (take most (drop at (take end live)))
    ≡ take most (drop at (take end (map (entry_in journal) live)))
page-is journal live end at most =
    let f = entry_in journal in
    sym (take-map f most (drop at (take end live)))
    ∙ ap (take most) (sym (drop-map f at (take end live))
    ∙ ap (drop at) (sym (take-map f end live)))

-- a page of what is due is that of the answer
pub page-answers : (live : List Entry) (answer : ℕ → Answer) (o : Option Due) (due : Due)
    (count : ℕ) (bytes : List ℕ) → ((most : ℕ) → answer most ≡ answer_of live most o)
    → o ≡ Some due → IsPageOf (take due.end live) due.at count bytes
    → IsPage answer (Some (record { epoch = due.epoch; at = due.at; count = count })) bytes
page-answers live answer o due count bytes answers some is =
    let page : Page = record { epoch = due.epoch; at = due.at; count = count } in (
      is.0,
      subst (λ a. AnswersBy a (Some page) bytes)
          (sym (answers is.0 ∙ ap (answer_of live is.0) some)) (refl, refl, is.1, is.2),
    )

-- ---- what is due

module _ (s : State) (journal : List Event) (roster : Roster) (live : LiveEpoch)
    (are : AreRead s journal roster live) (conn epoch at most : ℕ) where
  abbrev quiet : List ℕ
  quiet = quiet_of roster.quiet.items

  abbrev pulled : Answer
  pulled = pulled_where s quiet conn epoch at most (connection_of s conn)

  by-found : (o : Option Connection) → o ≡ connection_in roster.connections.items conn
      → pulled ≡ pulled_where s quiet conn epoch at most o
  by-found o found =
      ap (λ cs. pulled_where s quiet conn epoch at most (connection_in cs conn)) (sym are.table)
      ∙ ap (pulled_where s quiet conn epoch at most) (sym found)

  by-ending : (c : Connection) (e : Ending)
      → Some c ≡ connection_in roster.connections.items conn → c.ending ≡ e
      → pulled ≡ pulled_by s quiet conn epoch at most e
  by-ending c e found ends =
      by-found (Some c) found ∙ ap (pulled_by s quiet conn epoch at most) ends

  flagged-is : (c : Connection) → Some c ≡ connection_in roster.connections.items conn
      → list_any (λ other. other == conn) quiet ≡ mark roster.quiet.items (conn - 1)
  flagged-is c found =
      let given = given-out roster.connections.items conn (ap is_some (sym found)) in
      quiet-listed roster.quiet.items conn given.0 (omega (arith, given.1, are.flags))

  -- one that is quiet
  pub quiet-due : (c : Connection) → Some c ≡ connection_in roster.connections.items conn
      → c.ending ≡ ending.Running → mark roster.quiet.items (conn - 1) ≡ true → pulled ≡ Gone
  quiet-due c found ends flag =
      by-ending c ending.Running found ends
      ∙ ap (λ b. if b then Gone else pulled_from s epoch at most s.live) (flagged-is c found ∙ flag)

  -- one that is open
  pub open-due : (c : Connection) (o : Option Due)
      → Some c ≡ connection_in roster.connections.items conn
      → c.ending ≡ ending.Running → mark roster.quiet.items (conn - 1) ≡ false
      → pulled_from s epoch at most (take (length live.history.items) s.live)
      ≡ answer_of s.live most o
      → pulled ≡ answer_of s.live most o
  open-due c o found ends flag is =
      let count : length s.live ≡ length live.history.items =
      sym (ap length are.entries) ∙ length-map live.history.items (entry_in journal) in
      by-ending c ending.Running found ends
      ∙ ap (λ b. if b then Gone else pulled_from s epoch at most s.live) (flagged-is c found ∙ flag)
      ∙ ap (pulled_from s epoch at most)
      (sym (take_all (length live.history.items) s.live (omega (arith, count))))
      ∙ is
