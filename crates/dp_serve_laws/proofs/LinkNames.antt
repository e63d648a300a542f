-- The acts of a link name the connection that its own Open gave out, and no other.
use Rattle.std.proofs.Common.{◌≡◌, ℕ, false, List, [], ◌∷◌, ◌++◌, Option, None, Some, Ok, Err}
use Rattle.std.proofs.Common.{refl, sym, subst, ⊎_elim, inl, inr}
use Rattle.dp_frame.specs.Frames.{FrameParts}
use Rattle.dp_split.specs.Stream.{Stream}
use Rattle.dp_hall.specs.Names.{IsIn}
use Rattle.dp_hall.proofs.ListLemmas.{in_left, in_right, in_more}
use Rattle.dp_messages.specs.declared.message.Msg.{Msg}
use Rattle.dp_messages.specs.Messages.{HasSpelling}
use Rattle.dp_epochs.specs.declared.event.Event.TheVariants.{Open, Say, Close}
use Rattle.dp_epochs.specs.Past.{Past}
use Rattle.dp_session_laws.specs.Logs.{ReplyOrMemory, LogEntry}
use Rattle.dp_session_laws.specs.Closings.{given_by}
use Rattle.dp_link.specs.declared.ends.Greeting.{Greeting}
use Rattle.dp_link.specs.declared.ends.GreetEnd.{GreetEnd}
use Rattle.dp_link.specs.declared.ends.GreetEnd.TheVariants as greet
use Rattle.dp_link.specs.declared.ends.UpEnd.{UpEnd}
use Rattle.dp_link.specs.declared.ends.UpEnd.TheVariants as up
use Rattle.dp_link.specs.declared.ends.DownEnd.{DownEnd}
use Rattle.dp_link.specs.Acts.{IsAct}
use Rattle.dp_link.specs.Answers.{opened_as}
use Rattle.dp_link.specs.Hello.{AreOpen, AreOpenAndClose, GreetsBy}
use Rattle.dp_link.specs.Saying.{AreSpelled, AreSaid, AreSaidTo, SaidBy, AreSays}
use Rattle.dp_link_run.specs.Links.{LinkState, IsServed, LinkBy}
use Rattle.dp_serve_laws.proofs.NamingLemmas.{Names, NamesAfter, OrGiven, after-all}

-- ---- Says

-- messages that frames spell have a spelling
have-spellings : (frames : List FrameParts) (messages : List Msg) → AreSpelled frames messages
    → (m : Msg) → IsIn m messages → HasSpelling m
have-spellings [] [] are m h = absurd h
have-spellings [] (n ∷ messages) are m h = absurd are
have-spellings (frame ∷ frames) [] are m h = absurd h
have-spellings (frame ∷ frames) (n ∷ messages) are m (inl e) =
    subst HasSpelling (sym e) are.0.spelled
have-spellings (frame ∷ frames) (n ∷ messages) are m (inr h) =
    have-spellings frames messages are.1 m h

module _ (P : ℕ → Type 0) (conn : ℕ) (holds : P conn) where
  -- each of the acts names the connection, and its message has a spelling
  abbrev AllName : List LogEntry → Type 0
  AllName acts = (act : LogEntry) → IsIn act acts → Names P act.event

  say-names : (act : LogEntry) (m : Msg) → act.event ≡ Say conn m → HasSpelling m
      → Names P act.event
  say-names act m is spelled = subst (Names P) (sym is) (holds, spelled)

  close-names : (act : LogEntry) → act.event ≡ Close conn → Names P act.event
  close-names act is = subst (Names P) (sym is) holds

  said-names : (messages : List Msg) (acts : List LogEntry)
      → ((m : Msg) → IsIn m messages → HasSpelling m) → AreSaid conn messages acts → AllName acts
  said-names [] [] spelled said act h = absurd h
  said-names [] (first ∷ acts) spelled said act h = absurd said
  said-names (m ∷ messages) [] spelled said act h = absurd said
  said-names (m ∷ messages) (first ∷ acts) spelled said act (inl e) =
      subst (λ (a : LogEntry). Names P a.event) (sym e)
      (say-names first m said.0.event_is (spelled m (inl refl)))
  said-names (m ∷ messages) (first ∷ acts) spelled said act (inr h) =
      said-names messages acts (λ n k. spelled n (inr k)) said.1 act h

  -- one more act at the end
  last-names : (acts before : List LogEntry) (last : LogEntry) → acts ≡ before ++ last ∷ []
      → AllName before → Names P last.event → AllName acts
  last-names acts before last are earlier final act h =
      ⊎_elim (λ (k : IsIn act before). earlier act k)
      (λ (e : act ≡ last). subst (λ (a : LogEntry). Names P a.event) (sym e) final)
      (in_more act last before (subst (IsIn act) are h))

  said-to-names : (Q : Msg → ReplyOrMemory → Type 0) (messages : List Msg) (acts : List LogEntry)
      → ((m : Msg) → IsIn m messages → HasSpelling m) → AreSaidTo Q conn messages acts
      → AllName acts
  said-to-names Q messages acts spelled to =
      last-names acts to.before to.act to.acts_are
      (said-names to.earlier to.before
      (λ m h. spelled m (subst (IsIn m) (sym to.messages_are) (in_left m to.earlier
      (to.last ∷ []) h))) to.said)
      (say-names to.act to.last to.event_is
      (spelled to.last (subst (IsIn to.last) (sym to.messages_are)
      (in_right to.last to.earlier (to.last ∷ []) (inl refl)))))

  said-by-names : (end : UpEnd) (messages : List Msg) (acts : List LogEntry)
      → ((m : Msg) → IsIn m messages → HasSpelling m) → SaidBy end conn messages acts
      → AllName acts
  said-by-names up.Left messages acts spelled said = said-to-names _ messages acts spelled said
  said-by-names (up.Refused answer) messages acts spelled said =
      said-to-names _ messages acts spelled said
  said-by-names up.Memory messages acts spelled (inl said) =
      said-names messages acts spelled said
  said-by-names up.Memory messages acts spelled (inr said) =
      said-to-names _ messages acts spelled said
  said-by-names up.End messages acts spelled said = said-names messages acts spelled said
  said-by-names up.ReadFault messages acts spelled said = said-names messages acts spelled said
  said-by-names (up.BadMessage at) messages acts spelled said =
      said-names messages acts spelled said
  said-by-names up.Long messages acts spelled said = said-names messages acts spelled said
  said-by-names (up.NotGreeted end) messages acts spelled said = absurd said

  says-names : (left unread : Option (List ℕ)) (stream : Stream) (end : UpEnd)
      (outcome : ReplyOrMemory) (acts : List LogEntry)
      → AreSays left unread stream conn end outcome acts → AllName acts
  says-names left unread stream end outcome acts are =
      last-names acts are.says are.close are.acts_are
      (said-by-names end are.messages are.says
      (have-spellings are.heard.frames are.messages are.heard.spelled) are.said)
      (close-names are.close are.closes.event_is)

-- ---- a link

open-names : (P : ℕ → Type 0) (act : LogEntry) (name : List ℕ) (outcome : ReplyOrMemory)
    → IsAct act (Open name false) outcome → Names P act.event
open-names P act name outcome is = subst (Names P) (sym is.event_is) tt

-- the connection of a greeting, after the Open with this answer
greeted : (P : ℕ → Type 0) (act : LogEntry) (name : List ℕ) (greeting : Greeting)
    → IsAct act (Open name false) (Ok (opened_as greeting)) → OrGiven P act greeting.conn
greeted P act name greeting is =
    inr (subst (λ (o : ReplyOrMemory). IsIn greeting.conn (given_by o)) (sym is.outcome_is)
    (inl refl))

served-names : (P : ℕ → Type 0) (past : Past) (conn : ℕ) (end : UpEnd) (sent : DownEnd)
    (acts : List LogEntry) (before after : LinkState)
    → IsServed past conn end sent acts before after → NamesAfter P acts
served-names P past conn end sent acts before after served =
    subst (NamesAfter P) (sym served.acts_are) (
      open-names P served.opening served.name (Ok (opened_as served.greeting)) served.opened,
      after-all (OrGiven P served.opening) served.says
          (says-names (OrGiven P served.opening) conn
          (subst (OrGiven P served.opening) served.conn_is
          (greeted P served.opening served.name served.greeting served.opened))
          served.unread after.left served.stream end served.close served.says served.are),
    )

none-names : (P : ℕ → Type 0) (acts : List LogEntry) → acts ≡ [] → NamesAfter P acts
none-names P acts none = subst (NamesAfter P) (sym none) tt

one-names : (P : ℕ → Type 0) (name : List ℕ) (outcome : ReplyOrMemory) (acts : List LogEntry)
    → AreOpen name outcome acts → NamesAfter P acts
one-names P name outcome acts are =
    subst (NamesAfter P) (sym are.1) (open-names P are.0 name outcome are.2, tt)

two-names : (P : ℕ → Type 0) (name : List ℕ) (greeting : Greeting) (acts : List LogEntry)
    → AreOpenAndClose name greeting acts → NamesAfter P acts
two-names P name greeting acts are =
    subst (NamesAfter P) (sym are.2) (
      open-names P are.0 name (Ok (opened_as greeting)) are.3,
      (subst (Names (OrGiven P are.0)) (sym are.4) (greeted P are.0 name greeting are.3), tt),
    )

refused-names : (P : ℕ → Type 0) (end : GreetEnd) (read : List ℕ) (stream : Stream)
    (acts : List LogEntry) (held taken : Option (List ℕ))
    → GreetsBy (Err end) read stream acts held taken → NamesAfter P acts
refused-names P greet.ReadFault read stream acts held taken by = none-names P acts by.1.0
refused-names P greet.End read stream acts held taken by = none-names P acts by.1.0
refused-names P (greet.BadMessage at) read stream acts held taken by = none-names P acts by.2.0
refused-names P greet.Memory read stream acts held taken (inl nothing) =
    none-names P acts nothing.0
refused-names P greet.Memory read stream acts held taken (inr by) =
    one-names P by.0 (Err by.3.0) acts by.3.1
refused-names P (greet.Refused answer) read stream acts held taken by =
    one-names P by.0 (Ok answer) acts by.3.1.0
refused-names P greet.WriteFault read stream acts held taken by =
    ⊎_elim (λ w. two-names P by.0 w.0 acts w.1)
    (λ w. one-names P by.0 (Ok w.0) acts w.2.0) by.3

-- the acts of any link
pub link-names : (P : ℕ → Type 0) (past : Past) (conn : Option ℕ) (end : UpEnd) (sent : DownEnd)
    (acts : List LogEntry) (before after : LinkState)
    → LinkBy past conn end sent acts before after → NamesAfter P acts
link-names P past (Some conn) end sent acts before after served =
    served-names P past conn end sent acts before after served
link-names P past None (up.NotGreeted end) sent acts before after refused =
    refused-names P end refused.1.read refused.1.stream acts before.held after.held refused.1.by
link-names P past None up.Left sent acts before after refused = absurd refused
link-names P past None up.End sent acts before after refused = absurd refused
link-names P past None up.ReadFault sent acts before after refused = absurd refused
link-names P past None (up.BadMessage at) sent acts before after refused = absurd refused
link-names P past None up.Long sent acts before after refused = absurd refused
link-names P past None (up.Refused answer) sent acts before after refused = absurd refused
link-names P past None up.Memory sent acts before after refused = absurd refused
