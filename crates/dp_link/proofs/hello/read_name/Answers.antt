use Rattle.std.proofs.Common.{◌∙◌, []}
use Rattle.dp_link.proofs.FirstFrame.{few-first, from-fresh, name-read, name-ends, name-stops}
use Rattle.dp_link.proofs.FirstFrame.{not-long}
use Rattle.dp_link.proofs.hello.read_name.Goals as goal

pub returns-in-Ok-Some-clause-reads : goal.returns-in-Ok-Some-clause-reads
returns-in-Ok-Some-clause-reads g c =
    let left = g.R.Source.left c.args.rx.now in
    let link = c.reader_of-link.result in
    let begun = from-fresh c.requires.fresh (c.reader_of-link.ensures.begun left) in
    let given = rw c.in-Ok-Some.field-0-is at c.in-Ok-Some.ensures.goes_on in
    let few =
    few-first link.stream c.next.new.self.stream
    (c.reader_of-link.ensures.stream ∙ c.requires.fresh) c.next.ensures.few in
    rw c.replace.ensures.after (rw c.into_splitter.ensures
    (name-read (given left _ [] begun)
    (c.next.ensures.source.limit ∙ c.reader_of-link.ensures.limit) few c.name_in.result
    c.one_answer.ensures.entry c.name_in.ensures))

pub returns-in-Ok-None-clause-reads : goal.returns-in-Ok-None-clause-reads
returns-in-Ok-None-clause-reads g c =
    let left = g.R.Source.left c.args.rx.now in
    let link = c.reader_of-link.result in
    let begun = from-fresh c.requires.fresh (c.reader_of-link.ensures.begun left) in
    let ends =
    rw c.in-Ok-None.field-0-is at c.in-Ok-None.ensures.goes_to_end c.reader_of-link.ensures.going in
    name-ends left (g.R.Source.left c.next.new.input) link.limit c.reader_of-link.new.split
    c.reader_of-link.ensures.limit (ends left _ [] begun)

pub returns-in-Err-clause-reads : goal.returns-in-Err-clause-reads
returns-in-Err-clause-reads g c =
    let left = g.R.Source.left c.args.rx.now in
    let link = c.reader_of-link.result in
    let begun = from-fresh c.requires.fresh (c.reader_of-link.ensures.begun left) in
    name-stops left (g.R.Source.left c.next.new.input) link.limit c.reader_of-link.new.split
    c.next.new.self.stream.held c.in-Err.end c.greet_end_of.result c.one_answer.ensures.either
    c.reader_of-link.ensures.limit (c.in-Err.ensures.stops left _ [] begun)
    c.greet_end_of.ensures

pub greet_end_of-requires : goal.greet_end_of-requires
greet_end_of-requires g c =
    let left = g.R.Source.left c.args.rx.now in
    let link = c.reader_of-link.result in
    let begun = from-fresh c.requires.fresh (c.reader_of-link.ensures.begun left) in
    let few =
    few-first link.stream c.next.new.self.stream
    (c.reader_of-link.ensures.stream ∙ c.requires.fresh) c.next.ensures.few in
    not-long left (g.R.Source.left c.next.new.input) link.limit c.next.new.self.stream c.in-Err.end
    c.reader_of-link.ensures.limit few (c.in-Err.ensures.stops left _ [] begun)
