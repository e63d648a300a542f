-- Closings that were refused after the last event change no history.
use Rattle.std.proofs.Common.{◌≡◌, ℕ, ◌+◌, ◌==◌, false, cond, List, [], ◌∷◌, ◌++◌, length, map}
use Rattle.std.proofs.Common.{fold, All, Option, None, Some, refl, sym, ap, ◌∙◌, arith}
use Rattle.std.specs.List.{filter}
use Rattle.std.specs.Option.{option_map_or}
use Rattle.std.proofs.lemmas.Bool.{ne_eqb}
use Rattle.std.proofs.lemmas.List.Elements.{All-head, All-tail}
use Rattle.dp_epochs.specs.declared.connection.Connection.{Connection}
use Rattle.dp_epochs.specs.declared.connection.Ending.TheVariants as ending
use Rattle.dp_epochs.specs.declared.event.Event.{Event}
use Rattle.dp_epochs.specs.declared.event.ShutAt.{ShutAt}
use Rattle.dp_epochs.specs.State.{State, after_event, after_shut, histories, open_connection}
use Rattle.dp_epochs.specs.State.{with_connection}
use Rattle.dp_epochs.specs.Past.{Journalled, RefusedClose, shut_at, interleaved, after_item}

shut-histories : (s : State) (conn : ℕ) (o : Option Connection)
    → histories
    (option_map_or (λ c. with_connection s conn (record c { ending = ending.Shut })) o s)
    ≡ histories s
shut-histories s conn None = refl
shut-histories s conn (Some c) = refl

-- closings alone change none
closings-histories : (s : State) (shut : List ShutAt)
    → histories (fold after_item s (map (λ x. RefusedClose x.conn) shut)) ≡ histories s
closings-histories s [] = refl
closings-histories s (x ∷ shut) =
    closings-histories (after_shut s x.conn) shut
    ∙ shut-histories s x.conn (open_connection s x.conn)

none-yet : (n m : ℕ) (shut : List ShutAt) → All (λ s. s.n ≡ n + (m + 1)) shut → shut_at n shut ≡ []
none-yet n m [] later = refl
none-yet n m (s ∷ shut) later =
    let e : (s.n == n) ≡ false =
    ne_eqb s.n n (λ e. omega (arith, All-head (λ t. t.n ≡ n + (m + 1)) s shut later)) in
    ap (λ b. map (λ t. RefusedClose t.conn) (cond b (s ∷ filter (λ t. t.n == n) shut)
    (filter (λ t. t.n == n) shut))) e
    ∙ none-yet n m shut (All-tail (λ t. t.n ≡ n + (m + 1)) s shut later)

pub served : (s : State) (n : ℕ) (journal : List Event) (shut : List ShutAt)
    → All (λ x. x.n ≡ n + length journal) shut
    → histories (fold after_item s (interleaved n journal []))
    ≡ histories (fold after_item s (interleaved n journal shut))
served s n [] shut last = sym (closings-histories s (filter (λ x. x.n == n) shut))
served s n (e ∷ journal) shut last =
    served (after_event s e) (n + 1) journal shut (λ k d lt. omega (arith, last k d lt))
    ∙ ap (λ items. histories (fold after_item s (items ++ (Journalled e
    ∷ interleaved (n + 1) journal shut))))
    (sym (none-yet n (length journal) shut (λ k d lt. omega (arith, last k d lt))))
