use Rattle.std.proofs.Common.{rules, subst, Ok, true, false}
use Rattle.http_edge.specs.Content.{ReadsChunk}
use Rattle.http_edge.proofs.Chunked.{more_chunks, chunk_counts, chunks_end, chunks_fail}
use Rattle.http_edge.proofs.content.read_chunks.Goals as goal

pub returns-in-Err-clause-reads : goal.returns-in-Err-clause-reads
returns-in-Err-clause-reads g c =
    chunks_fail (Unit {0}) c.args.arrivals.now c.chunks.arrivals c.read_chunk.new.arrivals c.chunks.body.items c.read_chunk.new.body.items _ _ _ c.in-Err.error c.chunks.invariant.small c.chunks.invariant.chunks c.in-Err.ensures.reads

pub chunks-preserved : goal.chunks-preserved
chunks-preserved g c =
    let t = g.C.Source.read_traffic in
    let read : ReadsChunk c.chunks.arrivals c.read_chunk.new.arrivals c.chunks.body.items c.read_chunk.new.body.items (t c.chunks.conn) (t c.read_chunk.new.conn) (Ok true) =
    subst (λ m. ReadsChunk c.chunks.arrivals c.read_chunk.new.arrivals c.chunks.body.items c.read_chunk.new.body.items (t c.chunks.conn) (t c.read_chunk.new.conn) (Ok m)) c.in-Ok-true.field-0-test c.in-Ok-true.ensures.reads in
    let counts = chunk_counts c.chunks.arrivals c.read_chunk.new.arrivals c.chunks.body.items c.read_chunk.new.body.items _ _ read c.chunks.invariant.counted c.chunks.invariant.taken in
    record {
      chunks = more_chunks c.args.arrivals.now c.chunks.arrivals c.read_chunk.new.arrivals c.chunks.body.items c.read_chunk.new.body.items _ _ _ c.chunks.invariant.chunks read;
      small = read.2.4;
      counted = counts.0;
      taken = counts.1;
      faults = search rules;
    }

pub returns-in-Ok-false-clause-reads : goal.returns-in-Ok-false-clause-reads
returns-in-Ok-false-clause-reads g c =
    let t = g.C.Source.read_traffic in
    let read : ReadsChunk c.chunks.arrivals c.read_chunk.new.arrivals c.chunks.body.items c.read_chunk.new.body.items (t c.chunks.conn) (t c.read_chunk.new.conn) (Ok false) =
    subst (λ m. ReadsChunk c.chunks.arrivals c.read_chunk.new.arrivals c.chunks.body.items c.read_chunk.new.body.items (t c.chunks.conn) (t c.read_chunk.new.conn) (Ok m)) c.in-Ok-false.field-0-test c.in-Ok-false.ensures.reads in
    chunks_end {T = Unit {0}} tt c.args.arrivals.now c.chunks.arrivals c.read_chunk.new.arrivals c.chunks.body.items c.read_chunk.new.body.items _ _ _ c.chunks.invariant.small c.chunks.invariant.chunks read
