use Rattle.std.proofs.Common.{subst}
use Rattle.http_edge.specs.Requests.{ReaderState, ReadsNext}
use Rattle.http_edge.proofs.OneAnswer.{read_answers}
use Rattle.http_edge.proofs.reader.RequestReader.read.Goals as goal

pub returns-clause-decides : goal.returns-clause-decides
returns-clause-decides g c =
    let t = g.C.Source.read_traffic in
    let read = c.read_next-result in
    let reads : ReadsNext c.args.self.now.kept read.new.kept.items (t c.args.conn.now) (t read.new.conn) read.result =
    subst (λ (s : ReaderState). ReadsNext s.kept read.new.kept.items (t c.args.conn.now) (t read.new.conn) read.result) c.self.view_is read.ensures.reads in
    λ _. read_answers c.args.self.now.kept read.new.kept.items (t c.args.conn.now) (t read.new.conn) read.result reads
