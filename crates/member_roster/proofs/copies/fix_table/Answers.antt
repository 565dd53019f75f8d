use Rattle.std.proofs.Common.{◌≡◌, ◌<◌, List, [], ◌∷◌, ◌++◌, refl, length-append, length, get_or, sym, ap, ◌∙◌, arith, add-one, length-set}
use Rattle.place_table.specs.declared.host.HostInfo.{HostInfo}
use Rattle.member_roster.proofs.Rosters.{no_host, no_mark}
use Rattle.member_roster.proofs.Backed.{length-spare, spare_at, backed_target, backed_other, backed_all, some_same, target-more, target-same}
use Rattle.member_roster.proofs.copies.fix_table.Goals as goal
use Rattle.member_roster.proofs.copies.fix_table.Goals.{then-marks-i, else-marks-i}

pub loop-i-init : goal.loop-i-init
loop-i-init c =
    let e = c.give_back_all.new.table.ok.0 in
    let z = ap length c.give_back_all.ensures.table in
    record {
      table = c.give_back_all.ensures.table;
      backed = c.give_back_all.ensures.spares;
      long = length-spare c.args.hosts.now c.give_back_all.new.spares.items c.give_back_all.ensures.spares;
      few = omega arith;
      capacity = (let r = c.give_back_all.ensures.capacity in omega arith);
      spares_capacity = c.give_back_all.ensures.spares_capacity;
    }

pub take_spare-copy-requires-clause-spare : goal.take_spare-copy-requires-clause-spare
take_spare-copy-requires-clause-spare c =
    let s = spare_at c.loop-i.i c.args.hosts.now c.loop-i.spares.items c.loop-i.table.items no_host c.loop-i.invariant.backed (omega arith) in
    rw s refl

pub loop-i-preserved : goal.loop-i-preserved
loop-i-preserved c =
    let i = c.loop-i.i in
    let hs = c.args.hosts.now in
    let ms = c.args.marks.now in
    let within : c.loop-i.i < length c.args.hosts.now = omega arith in
    let v = c.loop-i.invariant in
    elim c.if-marks-i.branch [
      | then-marks-i w ↦
          let s = spare_at i hs c.loop-i.spares.items c.loop-i.table.items no_host v.backed within in
          let was = w.take_spare-copy.ensures.value in
          let q : w.take_spare-copy.result ≡ get_or hs i no_host = some_same _ _ (sym was ∙ s) in
          let r = w.push_reserved.ensures.capacity in
          let old = v.capacity in
          let f = v.few in
          let e1 = w.push_reserved.new.items.ok.0 in
          let e2 = c.loop-i.table.ok.0 in
          let e3 = ap length w.push_reserved.ensures.items in
          record {
            table = rw (add-one, w.table-is, w.push_reserved.ensures.items, q) (ap (λ (t : List HostInfo). t ++ get_or hs i no_host ∷ []) v.table ∙ sym (target-more hs ms i no_host no_mark c.requires.marked within w.if-marks-i.true));
            backed = rw (add-one, w.table-is, w.spares-is, w.take_spare-copy.ensures.rest, w.push_reserved.ensures.items, q) (backed_target i hs c.loop-i.spares.items c.loop-i.table.items no_host v.backed within);
            long = rw (w.spares-is, w.take_spare-copy.ensures.rest, length-set) v.long;
            few = rw w.table-is (omega (arith, length-append c.loop-i.table.items (w.take_spare-copy.result ∷ [])));
            capacity = rw w.table-is (omega arith);
            spares_capacity = rw w.spares-is (w.take_spare-copy.ensures.capacity ∙ v.spares_capacity);
          }
      | else-marks-i w ↦
          record {
            table = rw (add-one, w.table-is) (v.table ∙ sym (target-same hs ms i no_mark c.requires.marked within w.if-marks-i.false));
            backed = rw (add-one, w.table-is, w.spares-is) (backed_other i hs c.loop-i.spares.items c.loop-i.table.items v.backed within);
            long = rw w.spares-is v.long;
            few = rw w.table-is (let f = v.few in omega arith);
            capacity = rw w.table-is v.capacity;
            spares_capacity = rw w.spares-is v.spares_capacity;
          }
    ]

pub returns-clause-backed : goal.returns-clause-backed
returns-clause-backed c = backed_all c.loop-i.i c.args.hosts.now c.loop-i.spares.items c.loop-i.table.items (let e = c.loop-i.auto.i-end in omega arith) c.loop-i.invariant.backed
