use Rattle.std.proofs.Common.{ℕ, List, Bor, Some}
use Rattle.csv.specs.Records.{fields_of}
use Rattle.gl_lookup.proofs.Ahead.{read_either, read_row}
use Rattle.gl_lookup.proofs.rows.next_row.Goals as goal

pub returns-clause-reading : goal.returns-clause-reading
returns-clause-reading c =
    read_either (λ (s : Bor (List ℕ)). Some s.now) c.args.reader.now c.read_record.new.self (fields_of c.read_record.new.row) c.requires c.in-Ok.found
    (c.in-Ok.ensures.reads c.requires.whole c.requires.ready) (c.in-Ok.ensures.ready c.requires.whole)

pub returns-clause-row : goal.returns-clause-row
returns-clause-row c =
    read_row (λ (s : Bor (List ℕ)). Some s.now) c.args.reader.now c.read_record.new.self (fields_of c.read_record.new.row) c.requires c.in-Ok.found
    (c.in-Ok.ensures.reads c.requires.whole c.requires.ready) (c.in-Ok.ensures.ready c.requires.whole)
