use Rattle.frames_layout.proofs.walks.+walks.Given as goal

abbrev pub decreases-walks : goal.decreases-walks
decreases-walks l = l.most
