-- What a command asks for, by its name.
use Rattle.std.proofs.Common.{codes, rules}
use Rattle.clap.specs.Words.{found_of, rows_of}
use Rattle.dp_words.specs.Forms.{forms}
use Rattle.dp_words.proofs.Asking.{none-of, none-read, unnamed}
use Rattle.dp_words.proofs.parser.asked_by.Goals as goal

pub returns-in-play-clause-none : goal.returns-in-play-clause-none
returns-in-play-clause-none c =
    none-of c.played.result c.args.name.now (codes "play") (rows_of (found_of c.args.given.now))
    c.in-play.is c.played.ensures.none

pub returns-in-drill-clause-none : goal.returns-in-drill-clause-none
returns-in-drill-clause-none c =
    none-of c.drilled.result c.args.name.now (codes "drill") (rows_of (found_of c.args.given.now))
    c.in-drill.is c.drilled.ensures.none

pub returns-in-join-clause-none : goal.returns-in-join-clause-none
returns-in-join-clause-none c =
    none-read c.joined.result c.args.name.now (codes "join") (rows_of (found_of c.args.given.now))
    c.in-join.is c.joined.ensures.none

pub returns-in-serve-clause-none : goal.returns-in-serve-clause-none
returns-in-serve-clause-none c =
    none-read c.served.result c.args.name.now (codes "serve") (rows_of (found_of c.args.given.now))
    c.in-serve.is c.served.ensures.none

pub returns-in_default-clause-none : goal.returns-in_default-clause-none
returns-in_default-clause-none c = λ other.
    unnamed forms c.args.name.now (rows_of (found_of c.args.given.now)) other (search rules)
