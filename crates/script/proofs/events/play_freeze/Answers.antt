use Rattle.std.proofs.Common.{◌≡◌, ◌++◌, ℕ, List, Ok, Err, codes, decimal, refl, sym, ap, subst, ◌∙◌, inr, rules}
use Rattle.trust_types.specs.Kept.{revision}
use Rattle.frozen.specs.Revision.{Revision}
use Rattle.site_history.specs.declared.faults.FreezeFault.TheVariants.{Same, HistoryFull}
use Rattle.site_history.specs.Histories.{Entry, Freeze, History, with_entry, records}
use Rattle.site_history.specs.Legal.{IsLegal}
use Rattle.script.specs.Stages.{Holdings, with_kept}
use Rattle.script.specs.inner.Ready.{AreReady}
use Rattle.script.proofs.Growing.{ready_grown, ready_kept, last-meets}
use Rattle.script.proofs.events.play_freeze.Goals as goal

pub returns-in-Ok-clause-played : goal.returns-in-Ok-clause-played
returns-in-Ok-clause-played g c =
    let h : History = c.args.book.now.history in
    let f : Revision = c.in-Ok.graph.value in
    let e : Entry = Freeze c.args.actor (revision (records h)) in
    let entry : c.freeze.new.book.history ≡ with_entry h e = c.in-Ok.ensures.entry in
    let line : c.numbered.result.bytes ≡ codes "frozen " ++ decimal f.number = search rules in (
      codes "frozen " ++ decimal f.number,
      (Ok f, (c.in-Ok.ensures.graph, (last-meets h e (subst IsLegal entry c.freeze.ensures.sound.legal)).1, entry, refl), c.keep.ensures),
      c.put_line.ensures ∙ ap (λ (bs : List ℕ). c.args.out.now.items ++ (bs ++ codes "\n")) line,
    )

pub returns-in-Ok-clause-ready : goal.returns-in-Ok-clause-ready
returns-in-Ok-clause-ready g c =
    let h : History = c.args.book.now.history in
    let f : Revision = c.in-Ok.graph.value in
    let e : Entry = Freeze c.args.actor (revision (records h)) in
    let entry : c.freeze.new.book.history ≡ with_entry h e = c.in-Ok.ensures.entry in
    subst (λ (actors : List Holdings). AreReady c.freeze.new.book.history actors) (sym c.keep.ensures)
    (ready_grown h c.freeze.new.book.history (with_kept c.args.actors.now c.args.actor f) (inr (e, entry)) (ready_kept h c.args.actors.now c.args.actor f c.requires.ready c.in-Ok.ensures.graph))

pub returns-in-Err-Same-clause-played : goal.returns-in-Err-Same-clause-played
returns-in-Err-Same-clause-played g c =
    let r : ℕ = c.in-Err-Same.revision in
    let line : c.numbered-in-Err-Same.result.bytes ≡ codes "same " ++ decimal r = search rules in (
      codes "same " ++ decimal r,
      (Err (Same r), (search rules, c.in-Err-Same.ensures.same, refl), refl),
      c.put_line-in-Err-Same.ensures ∙ ap (λ (bs : List ℕ). c.args.out.now.items ++ (bs ++ codes "\n")) line,
    )

pub returns-in-Err-HistoryFull-clause-played : goal.returns-in-Err-HistoryFull-clause-played
returns-in-Err-HistoryFull-clause-played g c = (
  codes "history full",
  (Err HistoryFull, (search rules, c.in-Err-HistoryFull.ensures.same, refl), refl),
  c.put_line-in-Err-HistoryFull.ensures ∙ ap (λ (bs : List ℕ). c.args.out.now.items ++ (bs ++ codes "\n")) c.text.ensures,
)
