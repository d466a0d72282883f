mod Takes
