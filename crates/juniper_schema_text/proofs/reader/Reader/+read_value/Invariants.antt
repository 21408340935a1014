use Rattle.juniper_schema_text.proofs.reader.Reader.+read_value.Given as goal

abbrev pub decreases-read_value : goal.decreases-read_value
decreases-read_value l = l.levels
