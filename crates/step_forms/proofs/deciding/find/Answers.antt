use Rattle.step_forms.proofs.deciding.find.Goals as goal

pub returns-in-Getfieldiref : goal.returns-in-Getfieldiref
returns-in-Getfieldiref c = λ ls. rw c.in-Getfieldiref.is (c.getfieldiref.ensures ls)

pub returns-in-Getelemiref : goal.returns-in-Getelemiref
returns-in-Getelemiref c = λ ls. rw c.in-Getelemiref.is (c.getelemiref.ensures ls)

pub returns-in-Shiftiref : goal.returns-in-Shiftiref
returns-in-Shiftiref c = λ ls. rw c.in-Shiftiref.is (c.shiftiref.ensures ls)

pub returns-in-Getvarpartiref : goal.returns-in-Getvarpartiref
returns-in-Getvarpartiref c = λ ls. rw c.in-Getvarpartiref.is (c.getvarpartiref.ensures ls)
