mod TrapViews
