use Rattle.std.proofs.Common.{true, false, None, sym, ◌∙◌, subst}
use Rattle.disk_model.specs.Disk.{Tells}
use Rattle.disk_model.proofs.Stages.{tells_then}
use Rattle.tx_journal.specs.Found.{Synced}
use Rattle.tx_journal.specs.Sound.{Waits}
use Rattle.tx_journal.proofs.Founds.{Ready, readies, ready_after, opened_live, second_waits, first_waits, synced_keeps_both, told_second_keeps, told_second_opens, told_first_keeps, told_first_opens, told_second_refuses, told_first_refuses, told_second_made, told_first_made}
use Rattle.tx_journal.proofs.pair.settle_pair.Goals as goal

pub returns-in_err-sync_both-clause-crash : goal.returns-in_err-sync_both-clause-crash
returns-in_err-sync_both-clause-crash g c = synced_keeps_both c.args.create _ _ _ _ c.sync_both.ensures.first c.sync_both.ensures.second

pub returns-in_err-a-clause-crash : goal.returns-in_err-a-clause-crash
returns-in_err-a-clause-crash g c = synced_keeps_both c.args.create _ _ _ _
    (subst (Tells Synced (g.D.Disk.told c.args.first.now)) (sym c.survey_both.ensures.same_first) c.sync_both.ensures.first)
    (subst (Tells Synced (g.D.Disk.told c.args.second.now)) (sym c.survey_both.ensures.same_second) c.sync_both.ensures.second)

pub returns-in-Ok-clause-opened : goal.returns-in-Ok-clause-opened
returns-in-Ok-clause-opened g c =
    let first = readies c.in_ok-a.a _ _ c.sync_both.ensures.first c.in_ok-sync_both.ensures.first_done (λ e tells. c.in_ok-a.ensures.first e tells) in
    let second = readies c.in_ok-a.b _ _ c.sync_both.ensures.second c.in_ok-sync_both.ensures.second_done (λ e tells. c.in_ok-a.ensures.second e tells) in
    let first_on = subst (Tells (Ready c.in_ok-a.a) (g.D.Disk.told c.args.first.now)) (sym c.survey_both.ensures.same_first) first in
    let second_on = subst (Tells (Ready c.in_ok-a.b) (g.D.Disk.told c.args.second.now)) (sym c.survey_both.ensures.same_second) second in
    told_second_opens c.in_ok-a.a c.in_ok-a.b c.args.create _ _ _ _ (c.in-Ok.end, c.in-Ok.format) (sym c.is_second_newer.ensures ∙ c.if-is_second_newer.true) first_on (tells_then _ _ _ _ _ second_on c.in-Ok.ensures.opened)

pub returns-in-Ok-clause-crash : goal.returns-in-Ok-clause-crash
returns-in-Ok-clause-crash g c =
    let first = readies c.in_ok-a.a _ _ c.sync_both.ensures.first c.in_ok-sync_both.ensures.first_done (λ e tells. c.in_ok-a.ensures.first e tells) in
    let second = readies c.in_ok-a.b _ _ c.sync_both.ensures.second c.in_ok-sync_both.ensures.second_done (λ e tells. c.in_ok-a.ensures.second e tells) in
    let first_on = subst (Tells (Ready c.in_ok-a.a) (g.D.Disk.told c.args.first.now)) (sym c.survey_both.ensures.same_first) first in
    let second_on = subst (Tells (Ready c.in_ok-a.b) (g.D.Disk.told c.args.second.now)) (sym c.survey_both.ensures.same_second) second in
    told_second_keeps c.in_ok-a.a c.in_ok-a.b c.args.create _ _ _ _ (sym c.is_second_newer.ensures ∙ c.if-is_second_newer.true) first_on (tells_then _ _ _ _ _ second_on c.settle_synced.ensures.crash)

pub returns-in-Ok-clause-found : goal.returns-in-Ok-clause-found
returns-in-Ok-clause-found g c =
    let first = readies c.in_ok-a.a _ _ c.sync_both.ensures.first c.in_ok-sync_both.ensures.first_done (λ e tells. c.in_ok-a.ensures.first e tells) in
    let second = readies c.in_ok-a.b _ _ c.sync_both.ensures.second c.in_ok-sync_both.ensures.second_done (λ e tells. c.in_ok-a.ensures.second e tells) in
    let first_on = subst (Tells (Ready c.in_ok-a.a) (g.D.Disk.told c.args.first.now)) (sym c.survey_both.ensures.same_first) first in
    let second_on = subst (Tells (Ready c.in_ok-a.b) (g.D.Disk.told c.args.second.now)) (sym c.survey_both.ensures.same_second) second in
    record {
      live = λ d tells. opened_live c.in_ok-a.b c.args.create (c.in-Ok.end, c.in-Ok.format) _ _ _ d second_on c.in-Ok.ensures.opened tells;
      waits = λ d tells. let is = ready_after c.in_ok-a.a _ _ d first_on tells in subst (λ b. Waits true c.in_ok-a.b.generation b None d) (sym c.is_closed.ensures) (second_waits c.in_ok-a.a c.in_ok-a.b d (sym c.is_second_newer.ensures ∙ c.if-is_second_newer.true) is.0 is.1);
    }

pub returns-in-Err-clause-crash : goal.returns-in-Err-clause-crash
returns-in-Err-clause-crash g c =
    let first = readies c.in_ok-a.a _ _ c.sync_both.ensures.first c.in_ok-sync_both.ensures.first_done (λ e tells. c.in_ok-a.ensures.first e tells) in
    let second = readies c.in_ok-a.b _ _ c.sync_both.ensures.second c.in_ok-sync_both.ensures.second_done (λ e tells. c.in_ok-a.ensures.second e tells) in
    let first_on = subst (Tells (Ready c.in_ok-a.a) (g.D.Disk.told c.args.first.now)) (sym c.survey_both.ensures.same_first) first in
    let second_on = subst (Tells (Ready c.in_ok-a.b) (g.D.Disk.told c.args.second.now)) (sym c.survey_both.ensures.same_second) second in
    told_second_keeps c.in_ok-a.a c.in_ok-a.b c.args.create _ _ _ _ (sym c.is_second_newer.ensures ∙ c.if-is_second_newer.true) first_on (tells_then _ _ _ _ _ second_on c.settle_synced.ensures.crash)

pub returns-in-Err-clause-refused : goal.returns-in-Err-clause-refused
returns-in-Err-clause-refused g c =
    let first = readies c.in_ok-a.a _ _ c.sync_both.ensures.first c.in_ok-sync_both.ensures.first_done (λ e tells. c.in_ok-a.ensures.first e tells) in
    let second = readies c.in_ok-a.b _ _ c.sync_both.ensures.second c.in_ok-sync_both.ensures.second_done (λ e tells. c.in_ok-a.ensures.second e tells) in
    let first_on = subst (Tells (Ready c.in_ok-a.a) (g.D.Disk.told c.args.first.now)) (sym c.survey_both.ensures.same_first) first in
    let second_on = subst (Tells (Ready c.in_ok-a.b) (g.D.Disk.told c.args.second.now)) (sym c.survey_both.ensures.same_second) second in
    told_second_refuses c.in_ok-a.a c.in_ok-a.b c.args.create _ _ _ _ c.in-Err.error (sym c.is_second_newer.ensures ∙ c.if-is_second_newer.true) first_on second_on c.in-Err.ensures.refused

pub returns-in-Ok-settle_synced-clause-opened : goal.returns-in-Ok-settle_synced-clause-opened
returns-in-Ok-settle_synced-clause-opened g c =
    let first = readies c.in_ok-a.a _ _ c.sync_both.ensures.first c.in_ok-sync_both.ensures.first_done (λ e tells. c.in_ok-a.ensures.first e tells) in
    let second = readies c.in_ok-a.b _ _ c.sync_both.ensures.second c.in_ok-sync_both.ensures.second_done (λ e tells. c.in_ok-a.ensures.second e tells) in
    let first_on = subst (Tells (Ready c.in_ok-a.a) (g.D.Disk.told c.args.first.now)) (sym c.survey_both.ensures.same_first) first in
    let second_on = subst (Tells (Ready c.in_ok-a.b) (g.D.Disk.told c.args.second.now)) (sym c.survey_both.ensures.same_second) second in
    told_first_opens c.in_ok-a.a c.in_ok-a.b c.args.create _ _ _ _ (c.in-Ok-settle_synced.end, c.in-Ok-settle_synced.format) (sym c.is_second_newer.ensures ∙ c.if-is_second_newer.false) (tells_then _ _ _ _ _ first_on c.in-Ok-settle_synced.ensures.opened) second_on

pub returns-in-Ok-settle_synced-clause-crash : goal.returns-in-Ok-settle_synced-clause-crash
returns-in-Ok-settle_synced-clause-crash g c =
    let first = readies c.in_ok-a.a _ _ c.sync_both.ensures.first c.in_ok-sync_both.ensures.first_done (λ e tells. c.in_ok-a.ensures.first e tells) in
    let second = readies c.in_ok-a.b _ _ c.sync_both.ensures.second c.in_ok-sync_both.ensures.second_done (λ e tells. c.in_ok-a.ensures.second e tells) in
    let first_on = subst (Tells (Ready c.in_ok-a.a) (g.D.Disk.told c.args.first.now)) (sym c.survey_both.ensures.same_first) first in
    let second_on = subst (Tells (Ready c.in_ok-a.b) (g.D.Disk.told c.args.second.now)) (sym c.survey_both.ensures.same_second) second in
    told_first_keeps c.in_ok-a.a c.in_ok-a.b c.args.create _ _ _ _ (sym c.is_second_newer.ensures ∙ c.if-is_second_newer.false) (tells_then _ _ _ _ _ first_on c.settle_synced-2.ensures.crash) second_on

pub returns-in-Ok-settle_synced-clause-found : goal.returns-in-Ok-settle_synced-clause-found
returns-in-Ok-settle_synced-clause-found g c =
    let first = readies c.in_ok-a.a _ _ c.sync_both.ensures.first c.in_ok-sync_both.ensures.first_done (λ e tells. c.in_ok-a.ensures.first e tells) in
    let second = readies c.in_ok-a.b _ _ c.sync_both.ensures.second c.in_ok-sync_both.ensures.second_done (λ e tells. c.in_ok-a.ensures.second e tells) in
    let first_on = subst (Tells (Ready c.in_ok-a.a) (g.D.Disk.told c.args.first.now)) (sym c.survey_both.ensures.same_first) first in
    let second_on = subst (Tells (Ready c.in_ok-a.b) (g.D.Disk.told c.args.second.now)) (sym c.survey_both.ensures.same_second) second in
    record {
      live = λ d tells. opened_live c.in_ok-a.a c.args.create (c.in-Ok-settle_synced.end, c.in-Ok-settle_synced.format) _ _ _ d first_on c.in-Ok-settle_synced.ensures.opened tells;
      waits = λ d tells. let is = ready_after c.in_ok-a.b _ _ d second_on tells in subst (λ b. Waits false c.in_ok-a.a.generation b None d) (sym c.is_closed-in-Ok-settle_synced.ensures) (first_waits c.in_ok-a.a c.in_ok-a.b d (sym c.is_second_newer.ensures ∙ c.if-is_second_newer.false) is.0 is.1);
    }

pub returns-in-Err-settle_synced-clause-crash : goal.returns-in-Err-settle_synced-clause-crash
returns-in-Err-settle_synced-clause-crash g c =
    let first = readies c.in_ok-a.a _ _ c.sync_both.ensures.first c.in_ok-sync_both.ensures.first_done (λ e tells. c.in_ok-a.ensures.first e tells) in
    let second = readies c.in_ok-a.b _ _ c.sync_both.ensures.second c.in_ok-sync_both.ensures.second_done (λ e tells. c.in_ok-a.ensures.second e tells) in
    let first_on = subst (Tells (Ready c.in_ok-a.a) (g.D.Disk.told c.args.first.now)) (sym c.survey_both.ensures.same_first) first in
    let second_on = subst (Tells (Ready c.in_ok-a.b) (g.D.Disk.told c.args.second.now)) (sym c.survey_both.ensures.same_second) second in
    told_first_keeps c.in_ok-a.a c.in_ok-a.b c.args.create _ _ _ _ (sym c.is_second_newer.ensures ∙ c.if-is_second_newer.false) (tells_then _ _ _ _ _ first_on c.settle_synced-2.ensures.crash) second_on

pub returns-in-Err-settle_synced-clause-refused : goal.returns-in-Err-settle_synced-clause-refused
returns-in-Err-settle_synced-clause-refused g c =
    let first = readies c.in_ok-a.a _ _ c.sync_both.ensures.first c.in_ok-sync_both.ensures.first_done (λ e tells. c.in_ok-a.ensures.first e tells) in
    let second = readies c.in_ok-a.b _ _ c.sync_both.ensures.second c.in_ok-sync_both.ensures.second_done (λ e tells. c.in_ok-a.ensures.second e tells) in
    let first_on = subst (Tells (Ready c.in_ok-a.a) (g.D.Disk.told c.args.first.now)) (sym c.survey_both.ensures.same_first) first in
    let second_on = subst (Tells (Ready c.in_ok-a.b) (g.D.Disk.told c.args.second.now)) (sym c.survey_both.ensures.same_second) second in
    told_first_refuses c.in_ok-a.a c.in_ok-a.b c.args.create _ _ _ _ c.in-Err-settle_synced.error (sym c.is_second_newer.ensures ∙ c.if-is_second_newer.false) first_on second_on c.in-Err-settle_synced.ensures.refused

pub returns-in-Ok-clause-made : goal.returns-in-Ok-clause-made
returns-in-Ok-clause-made g c =
    let first = readies c.in_ok-a.a _ _ c.sync_both.ensures.first c.in_ok-sync_both.ensures.first_done (λ e tells. c.in_ok-a.ensures.first e tells) in
    let second = readies c.in_ok-a.b _ _ c.sync_both.ensures.second c.in_ok-sync_both.ensures.second_done (λ e tells. c.in_ok-a.ensures.second e tells) in
    let first_on = subst (Tells (Ready c.in_ok-a.a) (g.D.Disk.told c.args.first.now)) (sym c.survey_both.ensures.same_first) first in
    let second_on = subst (Tells (Ready c.in_ok-a.b) (g.D.Disk.told c.args.second.now)) (sym c.survey_both.ensures.same_second) second in
    told_second_made c.in_ok-a.a c.in_ok-a.b c.args.create c.in-Ok.format _ _ _ _ (sym c.is_second_newer.ensures ∙ c.if-is_second_newer.true) first_on second_on

pub returns-in-Ok-settle_synced-clause-made : goal.returns-in-Ok-settle_synced-clause-made
returns-in-Ok-settle_synced-clause-made g c =
    let first = readies c.in_ok-a.a _ _ c.sync_both.ensures.first c.in_ok-sync_both.ensures.first_done (λ e tells. c.in_ok-a.ensures.first e tells) in
    let second = readies c.in_ok-a.b _ _ c.sync_both.ensures.second c.in_ok-sync_both.ensures.second_done (λ e tells. c.in_ok-a.ensures.second e tells) in
    let first_on = subst (Tells (Ready c.in_ok-a.a) (g.D.Disk.told c.args.first.now)) (sym c.survey_both.ensures.same_first) first in
    let second_on = subst (Tells (Ready c.in_ok-a.b) (g.D.Disk.told c.args.second.now)) (sym c.survey_both.ensures.same_second) second in
    told_first_made c.in_ok-a.a c.in_ok-a.b c.args.create c.in-Ok-settle_synced.format _ _ _ _ (sym c.is_second_newer.ensures ∙ c.if-is_second_newer.false) first_on second_on c.in-Ok-settle_synced.ensures.made
