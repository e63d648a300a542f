-- The entries that a reset keeps.
use Rattle.std.proofs.Common.{◌≡◌, ℕ, ◌==◌, ◌&&◌, true, List, [], ◌∷◌, Option, None}
use Rattle.std.proofs.Common.{Some, is_some, drop, refl, ap, ◌∙◌}
use Rattle.std.specs.List.{filter}
use Rattle.std.proofs.lemmas.Bool.{cond_both, cond-false, false≢true}
use Rattle.dp_msg_meta.specs.declared.message.Meta.TheVariants.{Chat}
use Rattle.dp_messages.specs.declared.message.Msg.{Msg}
use Rattle.dp_messages.specs.declared.message.Msg.TheVariants as msg
use Rattle.dp_messages.specs.declared.message.Entry.{Entry}
use Rattle.dp_acl.specs.LookBack.{joined, is_join_of}
use Rattle.dp_acl.specs.Opening.{goes_over, GoOver, kept_entries}

passing-go : (entries : List Entry) → GoOver (filter (λ entry. goes_over entry.msg) entries)
passing-go [] = tt
passing-go (e ∷ es) =
    let rest = filter (λ entry. goes_over entry.msg) es in
    cond_both (goes_over e.msg) (e ∷ rest) rest GoOver (λ goes. (goes, passing-go es))
    (λ no. passing-go es)

-- what a reset keeps goes on
pub kept-goes : (place : Option ℕ) (history : List Entry) → GoOver (kept_entries place history)
kept-goes None history = tt
kept-goes (Some place) history = passing-go (drop place history)

-- a message that goes on is no Join
going-joined : (m : Msg) → goes_over m ≡ true → joined m ≡ None
going-joined (msg.Draw command) goes = refl
going-joined msg.Point goes = refl
going-joined (msg.Undo target redo) goes = refl
going-joined (msg.Opaque kind body) goes = refl
going-joined (msg.Meta (Chat text)) goes = refl
going-joined m goes = absurd (false≢true goes)

-- so no user joins by entries that go on
pub going-joins : (entries : List Entry) (user : ℕ) → GoOver entries
    → filter (is_join_of user) entries ≡ []
going-joins [] user go = refl
going-joins (e ∷ es) user go =
    let rest = filter (is_join_of user) es in
    cond-false (is_join_of user e) (e ∷ rest) rest
    (ap (λ o. is_some o && e.user == user) (going-joined e.msg go.0))
    ∙ going-joins es user go.1
