use Rattle.juniper_test_root.proofs.reader.Cursor.+read_tree.Given as goal

abbrev pub decreases-read_tree : goal.decreases-read_tree
decreases-read_tree l = l.levels
