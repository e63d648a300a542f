-- What is taken of a link.
use Rattle.std.proofs.Common.{◌≡◌, true, false, Bool, ◌||◌, if◌then◌else◌, List, [], ◌∷◌, ◌++◌}
use Rattle.std.proofs.Common.{refl, ap, ◌∙◌}
use Rattle.std.proofs.lemmas.List.Folds.{list_any-append}
use Rattle.dp_messages.specs.declared.message.Entry.{Entry}
use Rattle.dp_messages.specs.Properties.{is_disconnect}
use Rattle.dp_join_link.specs.Given.{is_closed, takeable}
use Rattle.dp_join_link.specs.JoinStanding.{is_ping}

pub either_false : (a b : Bool) → a || b ≡ false → (a ≡ false) × (b ≡ false)
either_false true b h = absurd (cc (h))
either_false false b h = (refl, h)

-- none of either list closes the link
pub still-append : (xs ys : List Entry) → is_closed xs ≡ false → is_closed ys ≡ false
    → is_closed (xs ++ ys) ≡ false
still-append xs ys first second =
    list_any-append (λ e. is_disconnect e.msg) xs ys ∙ ap (λ b. b || is_closed ys) first ∙ second

-- one of the second list closes it
pub closed-append : (xs ys : List Entry) → is_closed xs ≡ false → is_closed ys ≡ true
    → is_closed (xs ++ ys) ≡ true
closed-append xs ys first second =
    list_any-append (λ e. is_disconnect e.msg) xs ys ∙ ap (λ b. b || is_closed ys) first ∙ second

-- a list with one that is closed is closed
pub closed-longer : (xs ys : List Entry) → is_closed xs ≡ true → is_closed (xs ++ ys) ≡ true
closed-longer xs ys closed =
    list_any-append (λ e. is_disconnect e.msg) xs ys ∙ ap (λ b. b || is_closed ys) closed

-- one entry more, which is no Disconnect
split_more : (d p : Bool) (e : Entry) (xs ys : List Entry) → d ≡ false
    → (if d then [] else (if p then xs ++ ys else e ∷ (xs ++ ys)))
    ≡ (if d then [] else (if p then xs else e ∷ xs)) ++ ys
split_more true p e xs ys h = absurd (cc (h))
split_more false true e xs ys h = refl
split_more false false e xs ys h = refl

-- what is taken of two lists is what is taken of each
pub takeable-append : (xs ys : List Entry) → is_closed xs ≡ false
    → takeable (xs ++ ys) ≡ takeable xs ++ takeable ys
takeable-append [] ys still = refl
takeable-append (e ∷ xs) ys still =
    let both = either_false (is_disconnect e.msg) (is_closed xs) still in
    ap (λ rest. if is_disconnect e.msg then [] else (if is_ping e.msg then rest else e ∷ rest))
    (takeable-append xs ys both.1)
    ∙ split_more (is_disconnect e.msg) (is_ping e.msg) e (takeable xs) (takeable ys) both.0
