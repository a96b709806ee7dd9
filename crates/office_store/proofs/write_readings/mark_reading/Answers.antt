use Rattle.office_store.proofs.write_readings.mark_reading.Goals as goal

pub returns-then-branch-eq1-clause-put : goal.returns-then-branch-eq1-clause-put
returns-then-branch-eq1-clause-put g c clean base kept within words has = c.in_ok-set_mark.ensures.put clean base kept within words has c.if-branch-eq1.true
