use Rattle.std.proofs.Common.{arith}
use Rattle.dp_frame_log.proofs.LogLemmas.{frames-count}
use Rattle.dp_history.proofs.MadeLemmas.{front-fits, rest-fits, put-front, put-rest}
use Rattle.dp_history.proofs.frames.HistoryFrames.put.Goals as goal

pub put-requires-clause-are : goal.put-requires-clause-are
put-requires-clause-are c =
    let f = c.args.self.now in
    let are = c.requires.made.1.front in (
      are.written,
      are.of,
      omega (
        arith,
        frames-count f.front are.written are.of,
        front-fits f c.args.at c.args.most c.if-at-self.true c.requires.some c.requires.most,
      ),
    )

pub put-requires-else-at-self-clause-are : goal.put-requires-else-at-self-clause-are
put-requires-else-at-self-clause-are c =
    let f = c.args.self.now in
    let are = c.requires.made.1.rest in (
      are.written,
      are.of,
      omega (
        arith,
        frames-count f.rest are.written are.of,
        rest-fits f c.args.at c.args.most c.if-at-self.false c.requires.some c.requires.most,
      ),
    )

pub returns-then-at-self-clause-put : goal.returns-then-at-self-clause-put
returns-then-at-self-clause-put c =
    let f = c.args.self.now in
    put-front c.put.result f c.args.at c.args.most c.put.new.page
    (front-fits f c.args.at c.args.most c.if-at-self.true c.requires.some c.requires.most)
    c.put.ensures.most c.put.ensures.put

pub returns-else-at-self-clause-put : goal.returns-else-at-self-clause-put
returns-else-at-self-clause-put c =
    let f = c.args.self.now in
    put-rest c.put-else-at-self.result f c.args.at c.args.most
    c.put-else-at-self.new.page c.if-at-self.false
    (rest-fits f c.args.at c.args.most c.if-at-self.false c.requires.some c.requires.most)
    c.put-else-at-self.ensures.most c.put-else-at-self.ensures.put
