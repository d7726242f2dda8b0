use Rattle.gl_query.proofs.Endings.{ends_early, is_long, is_taken, is_built}
use Rattle.std.proofs.Common.{length, min}
use Rattle.gl_query.proofs.read.read_nodes.Goals as goal

pub returns-in-None-clause-refused : goal.returns-in-None-clause-refused
returns-in-None-clause-refused c = λ other.
    let b = c.in_ok-want.ensures.taken in
    let e = rw c.in-None.is at (c.in_ok-finish.ensures b.0 b.2 b.3) in
    (min (length c.args.text.now) 4096, ends_early c.args.text.now b.0 b.4 e, c.bad_query.ensures)

pub returns-then-text-gt-MAX_QUERY-clause-refused : goal.returns-then-text-gt-MAX_QUERY-clause-refused
returns-then-text-gt-MAX_QUERY-clause-refused c = λ other.
    let b = c.in_ok-want.ensures.taken in
    let e = rw c.in-Some.is at (c.in_ok-finish.ensures b.0 b.2 b.3) in
    (min (length c.args.text.now) 4096, is_long c.args.text.now b.0 e.0 b.4 e.1 c.if-text-gt-MAX_QUERY.true, c.bad_query-then-text-gt-MAX_QUERY.ensures)

pub returns-clause-read : goal.returns-clause-read
returns-clause-read c =
    let b = c.in_ok-want.ensures.taken in
    let e = rw c.in-Some.is at (c.in_ok-finish.ensures b.0 b.2 b.3) in
    is_taken c.args.text.now b.0 e.0 b.4 e.1 c.if-text-gt-MAX_QUERY.false

pub returns-clause-tree : goal.returns-clause-tree
returns-clause-tree c =
    let b = c.in_ok-want.ensures.taken in
    let e = rw c.in-Some.is at (c.in_ok-finish.ensures b.0 b.2 b.3) in
    (e.0, is_built _ b.0 e.0 b.1 e.1, e.2)
