use Rattle.speed_image.proofs.encoding.time_rows.Goals as goal

pub sum_of_image-sum-requires-clause-short : goal.sum_of_image-sum-requires-clause-short
sum_of_image-sum-requires-clause-short c = c.in_ok-tables.ensures.short
