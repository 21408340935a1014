use Rattle.juniper.proofs.preparing.execute_prepared_within.Goals as goal

pub execute_document-requires : goal.execute_document-requires
execute_document-requires g c = c.args.prepared.now.valid

pub returns-in-Err-clause-answers : goal.returns-in-Err-clause-answers
returns-in-Err-clause-answers g c = λ read. c.in-Err.ensures.answers c.args.prepared.now.text.now read

pub returns-in-Ok-clause-answers : goal.returns-in-Ok-clause-answers
returns-in-Ok-clause-answers g c = λ read. c.in-Ok.ensures.answers c.args.prepared.now.text.now read

pub returns-in-Err-clause-spent : goal.returns-in-Err-clause-spent
returns-in-Err-clause-spent g c = λ read. c.in-Err.ensures.spent c.args.prepared.now.text.now read

pub returns-in-Ok-clause-spent : goal.returns-in-Ok-clause-spent
returns-in-Ok-clause-spent g c = λ read. tt
