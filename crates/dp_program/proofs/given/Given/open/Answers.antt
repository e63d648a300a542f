use Rattle.std.specs.Prelude.{◌≡◌, Result, Ok, Err, IfOk}
use Rattle.dp_program.proofs.given.Given.open.Goals as goal

-- what two facts of a result make of it
both : {A E : Type 0} {P Q R : A → Type 0} (r : Result A E) → IfOk r P → IfOk r Q
    → ((a : A) → P a → Q a → R a) → IfOk r R
both (Ok a) p q f = f a p q
both (Err e) p q f = tt

-- the words and the wires are those that were read
pub returns-in-Ok-clause-wires : goal.returns-in-Ok-clause-wires
returns-in-Ok-clause-wires c =
    both c.with_store.result c.with_store.ensures.words c.with_store.ensures.wires
    (λ given words wires. rw (words, wires) c.in-Ok.ensures.wires)

-- so is whether there is a file
pub returns-in-Ok-clause-file : goal.returns-in-Ok-clause-file
returns-in-Ok-clause-file c =
    both c.with_store.result c.with_store.ensures.file
    (both {R = λ given. (given.words ≡ c.in-Ok.asked.words) × (given.wires ≡ c.in-Ok.asked.wires)}
    c.with_store.result c.with_store.ensures.words c.with_store.ensures.wires
    (λ given words wires. (words, wires)))
    (λ given file others. rw (others.0, others.1, file) c.in-Ok.ensures.file)
