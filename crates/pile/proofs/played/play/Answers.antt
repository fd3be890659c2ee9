use Rattle.std.proofs.Common.{◌≡◌, ◌+◌, [], ◌∷◌, ◌++◌, take, sym, ap, ◌∙◌, subst}
use Rattle.std.proofs.lemmas.List.{take_more, take_all}
use Rattle.pile.proofs.Promise.{every_run}
use Rattle.pile.proofs.Playing.{Ran, ran_none, ran_more}
use Rattle.pile.proofs.played.play.Goals as goal

pub loop-call-init : goal.loop-call-init
loop-call-init g c = λ f. ran_none _ _ _ _ _ _ f

pub loop-call-preserved : goal.loop-call-preserved
loop-call-preserved g c = λ f.
    let r = c.loop-call.invariant f in
    let i = c.loop-call.call-index in
    let item = c.call-item.result in
    let more : take (i + 1) c.args.calls.now ≡ take i c.args.calls.now ++ (item ∷ []) =
    take_more c.args.calls.now i item c.loop-call-test.true
    ∙ ap (λ x. take i c.args.calls.now ++ (x ∷ [])) (sym c.call-item.is) in
    subst (λ cs. Ran g.P.Pile.ordered g.P.Pile.view g.P.Pile.timing g.P.Pile.kind g.P.Pile.makes cs
    c.restart.new.self c.make.new.self) (sym more)
    (ran_more _ _ _ _ _ _ _ _ _ item _ r c.make.ensures.exact (c.make.ensures.linked r.fit.own))

pub returns : goal.returns
returns g c = record {
  promised = λ p.
      let f = g.met.P.Pile.fits c.restart.new.self (c.restart.ensures.kept p) in
      let r = c.loop-call.invariant f in
      record {
        begin = c.restart.new.self;
        run = r.run;
        reset = c.restart.ensures.exact;
        begun = c.restart.ensures.begun p;
        fit = f;
        play = r.play;
        these = r.these ∙ take_all _ _ c.loop-call-test.false;
        ends = r.ends;
        kept = every_run _ _ _ _ _ _ _ f r.play;
      };
  every = every_run _ _ _ _ _;
}
