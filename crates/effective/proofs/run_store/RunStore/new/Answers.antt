use Rattle.effective.proofs.run_store.RunStore.new.Goals as goal

pub returns : goal.returns
returns c = λ world given. c.over.ensures world given (c.new.ensures world given)
