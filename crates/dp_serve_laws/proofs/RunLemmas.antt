-- The acts of one link are of one connection at most, which its own Open gave out.
use Rattle.std.proofs.Common.{◌≡◌, ℕ, ◌==◌, true, false, List, [], ◌∷◌, ◌++◌, Option, None}
use Rattle.std.proofs.Common.{Some, Ok, Err, refl, sym, ap, subst, ◌∙◌, ⊎_elim, inl, inr}
use Rattle.std.proofs.lemmas.Bool.{eqb-true, eq-eqb}
use Rattle.dp_hall.specs.Names.{IsIn}
use Rattle.dp_hall.proofs.ListLemmas.{in_left, in_more, is_not}
use Rattle.dp_messages.specs.declared.message.Msg.{Msg}
use Rattle.dp_split.specs.Stream.{Stream}
use Rattle.dp_epochs.specs.declared.event.Event.TheVariants.{Open, Say, Close}
use Rattle.dp_epochs.specs.declared.event.Reply.{Reply}
use Rattle.dp_epochs.specs.declared.event.Reply.TheVariants as reply
use Rattle.dp_epochs.specs.Past.{Past}
use Rattle.dp_session_laws.specs.Logs.{ReplyOrMemory, LogEntry}
use Rattle.dp_session_laws.specs.Closings.{given_by, given_out}
use Rattle.dp_link.specs.declared.ends.Greeting.{Greeting}
use Rattle.dp_link.specs.declared.ends.GreetEnd.{GreetEnd}
use Rattle.dp_link.specs.declared.ends.GreetEnd.TheVariants as greet
use Rattle.dp_link.specs.declared.ends.UpEnd.{UpEnd}
use Rattle.dp_link.specs.declared.ends.UpEnd.TheVariants as up
use Rattle.dp_link.specs.declared.ends.DownEnd.{DownEnd}
use Rattle.dp_link.specs.Acts.{IsAct}
use Rattle.dp_link.specs.Answers.{opened_as, reason_of}
use Rattle.dp_link.specs.Hello.{AreOpen, AreOpenAndClose, GreetsBy}
use Rattle.dp_link.specs.Saying.{AreSaid, AreSaidTo, SaidBy, AreSays}
use Rattle.dp_link_run.specs.Links.{LinkState, IsServed, LinkBy}
use Rattle.dp_serve_laws.specs.Acts.{is_of, is_about}

-- the act is of this connection, and of no other
abbrev pub IsAboutOne : ℕ → LogEntry → Type 0
IsAboutOne conn act = (c : ℕ) → is_about c act ≡ (conn == c)

-- so is each of the acts, and one of them gave the connection out
pub record AreAboutOne (conn : ℕ) (acts : List LogEntry) : Type 0 where
  pub given : IsIn conn (given_out acts)
  pub each : (act : LogEntry) → IsIn act acts → IsAboutOne conn act

-- all of them are of the connection
pub one-all : (conn : ℕ) (acts : List LogEntry) → AreAboutOne conn acts → (act : LogEntry)
    → IsIn act acts
    → is_about conn act ≡ true
one-all conn acts one act h = one.each act h conn ∙ eq-eqb conn conn refl

-- of a connection that one of them is of, they gave it out
abbrev pub GivesItsOwn : List LogEntry → Type 0
GivesItsOwn acts =
    (c : ℕ) (act : LogEntry) → IsIn act acts → is_about c act ≡ true → IsIn c (given_out acts)

one-gives : (conn : ℕ) (acts : List LogEntry) → AreAboutOne conn acts → GivesItsOwn acts
one-gives conn acts one c act h about =
    subst (λ k. IsIn k (given_out acts)) (eqb-true conn c (sym (one.each act h c) ∙ about))
    one.given

-- ---- an Open and what is after it

opens-one : (conn : ℕ) (name : List ℕ) (greeting : Greeting) (opening : LogEntry)
    (later : List LogEntry)
    → IsAct opening (Open name false) (Ok (opened_as greeting)) → greeting.conn ≡ conn
    → ((act : LogEntry) → IsIn act later → IsAboutOne conn act) → AreAboutOne conn (opening ∷ later)
opens-one conn name greeting opening later is conn_is others = record {
  given =
      in_left conn (given_by opening.outcome) (given_out later)
      (subst (λ o. IsIn conn (given_by o)) (sym is.outcome_is) (inl (sym conn_is)));
  each = each;
}
  where
    first : IsAboutOne conn opening
    first c =
        ap (λ e. is_of c e opening.outcome) is.event_is
        ∙ ap (λ o. is_of c (Open name false) o) is.outcome_is
        ∙ ap (λ k. k == c) conn_is

    each : (act : LogEntry) → IsIn act (opening ∷ later) → IsAboutOne conn act
    each act (inl e) = subst (IsAboutOne conn) (sym e) first
    each act (inr h) = others act h

-- ---- Says and a Close

say-one : (conn : ℕ) (act : LogEntry) (m : Msg) → act.event ≡ Say conn m → IsAboutOne conn act
say-one conn act m is c = ap (λ e. is_of c e act.outcome) is

close-one : (conn : ℕ) (act : LogEntry) → act.event ≡ Close conn → IsAboutOne conn act
close-one conn act is c = ap (λ e. is_of c e act.outcome) is

-- one more act at the end
one-more : (conn : ℕ) (acts before : List LogEntry) (last act : LogEntry)
    → acts ≡ before ++ last ∷ []
    → ((x : LogEntry) → IsIn x before → IsAboutOne conn x) → IsAboutOne conn last → IsIn act acts
    → IsAboutOne conn act
one-more conn acts before last act are earlier final h =
    ⊎_elim (λ (k : IsIn act before). earlier act k)
    (λ (e : act ≡ last). subst (IsAboutOne conn) (sym e) final)
    (in_more act last before (subst (IsIn act) are h))

said-one : (conn : ℕ) (messages : List Msg) (acts : List LogEntry) → AreSaid conn messages acts
    → (act : LogEntry) → IsIn act acts → IsAboutOne conn act
said-one conn [] [] said act h = absurd h
said-one conn [] (first ∷ acts) said act h = absurd said
said-one conn (m ∷ messages) [] said act h = absurd said
said-one conn (m ∷ messages) (first ∷ acts) said act (inl e) =
    subst (IsAboutOne conn) (sym e) (say-one conn first m said.0.event_is)
said-one conn (m ∷ messages) (first ∷ acts) said act (inr h) =
    said-one conn messages acts said.1 act h

said-to-one : (P : Msg → ReplyOrMemory → Type 0) (conn : ℕ) (messages : List Msg)
    (acts : List LogEntry)
    → AreSaidTo P conn messages acts → (act : LogEntry) → IsIn act acts → IsAboutOne conn act
said-to-one P conn messages acts to act h =
    one-more conn acts to.before to.act act to.acts_are
    (said-one conn to.earlier to.before to.said)
    (say-one conn to.act to.last to.event_is) h

said-by-one : (end : UpEnd) (conn : ℕ) (messages : List Msg) (acts : List LogEntry)
    → SaidBy end conn messages acts → (act : LogEntry) → IsIn act acts → IsAboutOne conn act
said-by-one up.Left conn messages acts said = said-to-one _ conn messages acts said
said-by-one (up.Refused answer) conn messages acts said = said-to-one _ conn messages acts said
said-by-one up.Memory conn messages acts (inl said) = said-one conn messages acts said
said-by-one up.Memory conn messages acts (inr said) = said-to-one _ conn messages acts said
said-by-one up.End conn messages acts said = said-one conn messages acts said
said-by-one up.ReadFault conn messages acts said = said-one conn messages acts said
said-by-one (up.BadMessage at) conn messages acts said = said-one conn messages acts said
said-by-one up.Long conn messages acts said = said-one conn messages acts said
said-by-one (up.NotGreeted end) conn messages acts said = absurd said

says-one : (left unread : Option (List ℕ)) (stream : Stream) (conn : ℕ) (end : UpEnd)
    (outcome : ReplyOrMemory) (acts : List LogEntry)
    → AreSays left unread stream conn end outcome acts
    → (act : LogEntry) → IsIn act acts → IsAboutOne conn act
says-one left unread stream conn end outcome acts are act h =
    one-more conn acts are.says are.close act are.acts_are
    (said-by-one end conn are.messages are.says are.said)
    (close-one conn are.close are.closes.event_is) h

-- ---- a link

-- the acts of a painter who was greeted
pub served-one : (past : Past) (conn : ℕ) (end : UpEnd) (sent : DownEnd) (acts : List LogEntry)
    (before after : LinkState) → IsServed past conn end sent acts before after
    → AreAboutOne conn acts
served-one past conn end sent acts before after served =
    subst (AreAboutOne conn) (sym served.acts_are)
    (opens-one conn served.name served.greeting served.opening served.says served.opened
    served.conn_is
    (says-one served.unread after.left served.stream conn end served.close served.says served.are))

-- no acts, and an Open that gave out nothing
none-own : (acts : List LogEntry) → acts ≡ [] → GivesItsOwn acts
none-own acts none c act h about = absurd (subst (IsIn act) none h)

open-own : (name : List ℕ) (outcome : ReplyOrMemory) (acts : List LogEntry)
    → AreOpen name outcome acts
    → ((c : ℕ) → is_of c (Open name false) outcome ≡ false) → GivesItsOwn acts
open-own name outcome acts are gives_none c act h about =
    by_place (subst (IsIn act) are.1 h)
  where
    by_place : IsIn act (are.0 ∷ []) → IsIn c (given_out acts)
    by_place (inl e) =
        absurd (is_not (is_about c act) about
        (ap (is_about c) e ∙ ap (λ v. is_of c v are.0.outcome) are.2.event_is
        ∙ ap (λ o. is_of c (Open name false) o) are.2.outcome_is ∙ gives_none c))
    by_place (inr k) = absurd k

refusal-gives-none : (answer : Reply) (reason : ℕ) → reason_of answer ≡ Some reason
    → (name : List ℕ) (c : ℕ) → is_of c (Open name false) (Ok answer) ≡ false
refusal-gives-none (reply.Opened conn user epoch at) reason is name c = absurd (cc (is))
refusal-gives-none answer reason is name c = refl

close-own : (name : List ℕ) (greeting : Greeting) (acts : List LogEntry)
    → AreOpenAndClose name greeting acts → GivesItsOwn acts
close-own name greeting acts are =
    one-gives greeting.conn acts
    (subst (AreAboutOne greeting.conn) (sym are.2)
    (opens-one greeting.conn name greeting are.0 (are.1 ∷ []) are.3 refl close))
  where
    close : (act : LogEntry) → IsIn act (are.1 ∷ []) → IsAboutOne greeting.conn act
    close act (inl e) =
        subst (IsAboutOne greeting.conn) (sym e) (close-one greeting.conn are.1 are.4)
    close act (inr h) = absurd h

-- the acts if nobody was greeted
refused-own : (end : GreetEnd) (read : List ℕ) (stream : Stream) (acts : List LogEntry)
    (held taken : Option (List ℕ)) → GreetsBy (Err end) read stream acts held taken
    → GivesItsOwn acts
refused-own greet.ReadFault read stream acts held taken by = none-own acts by.1.0
refused-own greet.End read stream acts held taken by = none-own acts by.1.0
refused-own (greet.BadMessage at) read stream acts held taken by = none-own acts by.2.0
refused-own greet.Memory read stream acts held taken (inl nothing) = none-own acts nothing.0
refused-own greet.Memory read stream acts held taken (inr by) =
    open-own by.0 (Err by.3.0) acts by.3.1 (λ c. refl)
refused-own (greet.Refused answer) read stream acts held taken by =
    open-own by.0 (Ok answer) acts by.3.1.0 (refusal-gives-none answer by.3.0 by.3.1.1 by.0)
refused-own greet.WriteFault read stream acts held taken by =
    ⊎_elim (λ w. close-own by.0 w.0 acts w.1)
    (λ w. open-own by.0 (Ok w.0) acts w.2.0 (refusal-gives-none w.0 w.1 w.2.1 by.0)) by.3

-- the acts of any link
pub link-own : (past : Past) (conn : Option ℕ) (end : UpEnd) (sent : DownEnd) (acts : List LogEntry)
    (before after : LinkState) → LinkBy past conn end sent acts before after → GivesItsOwn acts
link-own past (Some conn) end sent acts before after served =
    one-gives conn acts (served-one past conn end sent acts before after served)
link-own past None (up.NotGreeted end) sent acts before after refused =
    refused-own end refused.1.read refused.1.stream acts before.held after.held refused.1.by
link-own past None up.Left sent acts before after refused = absurd refused
link-own past None up.End sent acts before after refused = absurd refused
link-own past None up.ReadFault sent acts before after refused = absurd refused
link-own past None (up.BadMessage at) sent acts before after refused = absurd refused
link-own past None up.Long sent acts before after refused = absurd refused
link-own past None (up.Refused answer) sent acts before after refused = absurd refused
link-own past None up.Memory sent acts before after refused = absurd refused
